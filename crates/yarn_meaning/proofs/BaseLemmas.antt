-- The base table of a project that is accepted has the texts of all its lines and options: their ids differ.
use Rattle.std.proofs.Common.{◌≡◌, ℕ, ◌+◌, List, [], ◌∷◌, ◌++◌, map, nat_eq, Bool, true, cond, Option, Some, None, inl, inr, refl, sym, ap, ◌∙◌, subst, append_assoc, append-nil}
use Rattle.std.specs.Cmp.Lexicographic.{pointwise}
use Rattle.std.proofs.lemmas.Bool.{false_from_ne_true}
use Rattle.std.proofs.lemmas.List.Elements.{All-nil, All-cons, All-head, All-tail}
use Rattle.std.proofs.lemmas.Slice.Eq.{bytes_eq-Decides}
use Rattle.yarn_base.specs.declared.Place.{Place}
use Rattle.yarn_base.specs.declared.SourceFile.{SourceFile}
use Rattle.yarn_value.specs.declared.signature.Signature.{Signature}
use Rattle.yarn_blocks.specs.declared.entry.Entry.{Entry}
use Rattle.yarn_blocks.specs.declared.entry.Simple.{Simple}
use Rattle.yarn_blocks.specs.declared.entry.Simple.TheVariants as simple
use Rattle.yarn_blocks.specs.declared.entry.What.TheVariants.{Statement}
use Rattle.yarn_blocks.specs.declared.tree.Head.{Head}
use Rattle.yarn_blocks.specs.declared.tree.LineText.{LineText}
use Rattle.yarn_blocks.specs.Block.{Block, empty, statement, option, choice, Tail, ends, otherwise, next}
use Rattle.yarn_blocks.specs.Reading.{read}
use Rattle.yarn_blocks.specs.Tree.{Offered, Leaf, Group, Choice, Stmts, Nil, Cons, Clauses, Last, and_option}
use Rattle.yarn_blocks.proofs.Viable.{read-block}
use Rattle.yarn_nodes.specs.declared.node.FileLines.{FileLines}
use Rattle.yarn_nodes.specs.declared.node.NodeLines.{NodeLines}
use Rattle.yarn_nodes.specs.Entries.{said_by as said_at}
use Rattle.yarn_tree.specs.declared.refusal.RefusalKind.TheVariants as kind
use Rattle.yarn_tree.specs.Checks.{and_id, ids_in, ids_within, ids_of, ids_seen}
use Rattle.yarn_tree.specs.Laws.{IsAmong, names_in, ids_from}
use Rattle.yarn_tree.specs.Names.{NameAt}
use Rattle.yarn_tree.specs.Reading.{Reads, reading_of}
use Rattle.yarn_tree.specs.Trees.{stmts_or_none, grown_node, grown}
use Rattle.yarn_tree.proofs.FirstUseLemmas.{ids-reads}
use Rattle.yarn_tree.proofs.LawLemmas.{the-reading}
use Rattle.yarn_tree.proofs.RefusalLemmas.{Chain, all-none, more-none}
use Rattle.yarn_tree.proofs.SightLemmas.{Fresh, among-left, among-right, distinct-fresh, no_sight-distinct}
use Rattle.yarn_tree.proofs.SourceLemmas.{reads_from}
use Rattle.yarn_tree.proofs.StageLemmas.{to_id, lines_of_files}
use Rattle.yarn_meaning.specs.BaseLaw.{BaseTells}
use Rattle.yarn_meaning.specs.Texts.{said_by, said_in, said_in_clauses, said_in_last, said_in_nodes, said_in_files, Table, Tells, TellsAll, text_under}

-- ---- the lines and options of a body, as its entries have them

abbrev pub and_text : Option LineText → List LineText → List LineText
and_text (Some text) texts = text ∷ texts
and_text None texts = texts

abbrev pub body_texts : List Entry → List LineText
body_texts [] = []
body_texts (x ∷ xs) = and_text (said_at x.what) (body_texts xs)

and_text-append : (s : Option LineText) (a b : List LineText) → and_text s (a ++ b) ≡ and_text s a ++ b
and_text-append (Some text) a b = refl
and_text-append None a b = refl

body-append : (xs ys : List Entry) → body_texts (xs ++ ys) ≡ body_texts xs ++ body_texts ys
body-append [] ys = refl
body-append (x ∷ xs) ys = ap (and_text (said_at x.what)) (body-append xs ys) ∙ and_text-append (said_at x.what) (body_texts xs) (body_texts ys)

simple-text : (n : Simple) (texts : List LineText) → said_by n ++ texts ≡ and_text (said_at (Statement n)) texts
simple-text (simple.Line text) texts = refl
simple-text (simple.Command text) texts = refl
simple-text (simple.Set head name op e) texts = refl
simple-text (simple.Declare head name value kind) texts = refl
simple-text (simple.Jump head title) texts = refl
simple-text (simple.JumpTo head e) texts = refl
simple-text (simple.Stop head) texts = refl
simple-text (simple.Call head e) texts = refl

-- an option joins the group that follows, and stands before it
option-text : (n : Offered) (body b : Stmts) → said_in (and_option n body b) ≡ n.text ∷ (said_in body ++ said_in b)
option-text n body Nil = ap (λ l. n.text ∷ l) (append-nil (said_in body ++ []))
option-text n body (Cons (Leaf m) b) = ap (λ l. n.text ∷ (l ++ (said_by m ++ said_in b))) (append-nil (said_in body))
option-text n body (Cons (Group os) b) = ap (λ l. n.text ∷ l) (append_assoc (said_in body) _ (said_in b))
option-text n body (Cons (Choice cs last e) b) = ap (λ l. n.text ∷ (l ++ ((said_in_clauses cs ++ said_in_last last) ++ said_in b))) (append-nil (said_in body))

-- the statements of a block say what its entries say
mutual
  block-texts : {xs behind : List Entry} {b : Stmts} → Block xs behind b → said_in b ≡ body_texts xs
  block-texts empty = refl
  block-texts (statement {x = x} {n = n} {xs = xs} {b = b} w r) =
      simple-text n (said_in b) ∙ ap (and_text (said_at (Statement n))) (block-texts r) ∙ ap (λ v. and_text (said_at v) (body_texts xs)) (sym w)
  block-texts (option {x = x} {n = n} {run = run} {xs = xs} {body = body} {b = b} w e first r) =
      option-text n body b
      ∙ ap (λ l. n.text ∷ (l ++ said_in b)) (block-texts first)
      ∙ ap (λ l. n.text ∷ (body_texts run ++ l)) (block-texts r)
      ∙ ap (λ l. n.text ∷ l) (sym (body-append run xs))
      ∙ ap (λ v. and_text (said_at v) (body_texts (run ++ xs))) (sym w)
  block-texts (choice {x = x} {n = n} {e = e} {xs = xs} {rest = rest} {ys = ys} {b = b} {c = c} {cs = cs} {last = last} w first more r) =
      ap (λ l. l ++ said_in c) (append_assoc (said_in b) (said_in_clauses cs) (said_in_last last) ∙ ap (λ l. said_in b ++ l) (tail-texts more))
      ∙ append_assoc (said_in b) (body_texts rest) (said_in c)
      ∙ ap (λ l. l ++ (body_texts rest ++ said_in c)) (block-texts first)
      ∙ ap (λ l. body_texts xs ++ (body_texts rest ++ l)) (block-texts r)
      ∙ ap (λ l. body_texts xs ++ l) (sym (body-append rest ys))
      ∙ sym (body-append xs (rest ++ ys))
      ∙ ap (λ v. and_text (said_at v) (body_texts (xs ++ (rest ++ ys)))) (sym w)

  tail-texts : {xs behind : List Entry} {cs : Clauses} {last : Last} {e : Head} → Tail xs behind cs last e →
      said_in_clauses cs ++ said_in_last last ≡ body_texts xs
  tail-texts (ends {x = x} {e = e} w) = ap (λ v. and_text (said_at v) []) (sym w)
  tail-texts (otherwise {x = x} {y = y} {n = n} {e = e} {xs = xs} {b = b} w first v) =
      block-texts first
      ∙ sym (append-nil (body_texts xs))
      ∙ ap (λ u. body_texts xs ++ and_text (said_at u) []) (sym v)
      ∙ sym (body-append xs (y ∷ []))
      ∙ ap (λ u. and_text (said_at u) (body_texts (xs ++ y ∷ []))) (sym w)
  tail-texts (next {x = x} {n = n} {xs = xs} {rest = rest} {b = b} {cs = cs} {last = last} w first more) =
      append_assoc (said_in b) (said_in_clauses cs) (said_in_last last)
      ∙ ap (λ l. said_in b ++ l) (tail-texts more)
      ∙ ap (λ l. l ++ body_texts rest) (block-texts first)
      ∙ sym (body-append xs rest)
      ∙ ap (λ v. and_text (said_at v) (body_texts (xs ++ rest))) (sym w)

-- ---- lists whose ids differ

abbrev pub text_ids : List LineText → List (List ℕ)
text_ids [] = []
text_ids (text ∷ texts) = text.id ∷ text_ids texts

ids-append : (a b : List LineText) → text_ids (a ++ b) ≡ text_ids a ++ text_ids b
ids-append [] b = refl
ids-append (text ∷ a) b = ap (λ (l : List (List ℕ)). text.id ∷ l) (ids-append a b)

-- no id comes again behind its line
abbrev pub AreApart : List LineText → Type 0
AreApart [] = Unit {0}
AreApart (text ∷ texts) = (IsAmong (text_ids texts) text.id → ⊥) × AreApart texts

fresh-among : (done xs : List (List ℕ)) (x : List ℕ) → Fresh done xs → IsAmong done x → IsAmong xs x → ⊥
fresh-among done [] x fresh early is = is
fresh-among done (y ∷ xs) x fresh early (inl e) = fresh.0 (subst (IsAmong done) (sym e) early)
fresh-among done (y ∷ xs) x fresh early (inr is) = fresh-among (done ++ y ∷ []) xs x fresh.1 (among-left done (y ∷ []) x early) is

fresh-apart : (done : List (List ℕ)) (texts : List LineText) → Fresh done (text_ids texts) → AreApart texts
fresh-apart done [] fresh = tt
fresh-apart done (text ∷ texts) fresh =
    let own : List (List ℕ) = done ++ text.id ∷ [] in
    (fresh-among own (text_ids texts) text.id fresh.1 (among-right done (text.id ∷ []) text.id (inl refl)), fresh-apart own texts fresh.1)

-- another line in front, with an id of its own, changes no text
past : (table : Table) (text : LineText) (texts : List LineText) → (IsAmong (text_ids texts) text.id → ⊥) → TellsAll table texts →
    TellsAll (λ id. cond (pointwise nat_eq text.id id) text.text (table id)) texts
past table text [] new all = All-nil (Tells (λ id. cond (pointwise nat_eq text.id id) text.text (table id)))
past table text (other ∷ texts) new all =
    let differ = false_from_ne_true (pointwise nat_eq text.id other.id) (λ e. new (inl (sym ((bytes_eq-Decides text.id other.id).0 e)))) in
    All-cons (Tells (λ id. cond (pointwise nat_eq text.id id) text.text (table id))) other texts
    (ap (λ (t : Bool). cond t text.text (table other.id)) differ ∙ All-head (Tells table) other texts all)
    (past table text texts (λ is. new (inr is)) (All-tail (Tells table) other texts all))

apart-tells : (texts : List LineText) → AreApart texts → TellsAll (text_under texts) texts
apart-tells [] apart = All-nil (Tells (text_under []))
apart-tells (text ∷ texts) apart =
    let same = (bytes_eq-Decides text.id text.id).1 refl in
    All-cons (Tells (text_under (text ∷ texts))) text texts
    (ap (λ (t : Bool). cond t text.text (text_under texts text.id)) same) (past (text_under texts) text texts apart.0 (apart-tells texts apart.1))

-- ---- parts of lists

-- the one list has some of the other's lines, in their order
pub data IsPart : List LineText → List LineText → Type 0 where
  nothing : IsPart [] []
  takes : {text : LineText} {some all : List LineText} → IsPart some all → IsPart (text ∷ some) (text ∷ all)
  skips : {text : LineText} {some all : List LineText} → IsPart some all → IsPart some (text ∷ all)

part-none : (all : List LineText) → IsPart [] all
part-none [] = nothing
part-none (text ∷ all) = skips (part-none all)

part-all : (all : List LineText) → IsPart all all
part-all [] = nothing
part-all (text ∷ all) = takes (part-all all)

part-append : {a b c d : List LineText} → IsPart a b → IsPart c d → IsPart (a ++ c) (b ++ d)
part-append nothing more = more
part-append (takes part) more = takes (part-append part more)
part-append (skips part) more = skips (part-append part more)

part-among : {some all : List LineText} → IsPart some all → (x : List ℕ) → IsAmong (text_ids some) x → IsAmong (text_ids all) x
part-among nothing x is = is
part-among (takes part) x (inl e) = inl e
part-among (takes part) x (inr is) = inr (part-among part x is)
part-among (skips part) x is = inr (part-among part x is)

pub part-apart : {some all : List LineText} → IsPart some all → AreApart all → AreApart some
part-apart nothing apart = tt
part-apart (takes {text = text} part) apart = (λ is. apart.0 (part-among part text.id is), part-apart part apart.1)
part-apart (skips part) apart = part-apart part apart.1

-- ---- files

abbrev pub node_texts : List NodeLines → List LineText
node_texts [] = []
node_texts (node ∷ nodes) = body_texts node.body ++ node_texts nodes

abbrev pub file_texts : List FileLines → List LineText
file_texts [] = []
file_texts (file ∷ files) = node_texts file.nodes ++ file_texts files

body-part : (body : List Entry) (o : Option Stmts) → read body ≡ o → IsPart (said_in (stmts_or_none o)) (body_texts body)
body-part body None is = part-none (body_texts body)
body-part body (Some b) is = subst (λ (l : List LineText). IsPart l (body_texts body)) (sym (block-texts (read-block body b is))) (part-all (body_texts body))

nodes-part : (nodes : List NodeLines) → IsPart (said_in_nodes (map grown_node nodes)) (node_texts nodes)
nodes-part [] = nothing
nodes-part (node ∷ nodes) = part-append (body-part node.body (read node.body) refl) (nodes-part nodes)

pub files-part : (files : List FileLines) → IsPart (said_in_files (map grown files)) (file_texts files)
files-part [] = nothing
files-part (file ∷ files) = part-append (nodes-part file.nodes) (files-part files)

names-append : (a b : List NameAt) → names_in (a ++ b) ≡ names_in a ++ names_in b
names-append [] b = refl
names-append (x ∷ a) b = ap (λ (l : List (List ℕ)). x.0 ∷ l) (names-append a b)

id-name : (s : Option LineText) (place : Place) (xs : List NameAt) (texts : List LineText) → names_in xs ≡ text_ids texts →
    names_in (and_id s place xs) ≡ text_ids (and_text s texts)
id-name None place xs texts is = is
id-name (Some text) place xs texts is = ap (λ (l : List (List ℕ)). text.id ∷ l) is

body-names : (file : ℕ) (body : List Entry) → names_in (ids_in file body) ≡ text_ids (body_texts body)
body-names file [] = refl
body-names file (x ∷ body) = id-name (said_at x.what) (record { file = file; line = x.line }) (ids_in file body) (body_texts body) (body-names file body)

within-names : (file : ℕ) (nodes : List NodeLines) → names_in (ids_within file nodes) ≡ text_ids (node_texts nodes)
within-names file [] = refl
within-names file (node ∷ nodes) =
    names-append (ids_in file node.body) (ids_within file nodes)
    ∙ ap (λ (l : List (List ℕ)). l ++ names_in (ids_within file nodes)) (body-names file node.body)
    ∙ ap (λ (l : List (List ℕ)). text_ids (body_texts node.body) ++ l) (within-names file nodes)
    ∙ sym (ids-append (body_texts node.body) (node_texts nodes))

names-from : (n : ℕ) (files : List FileLines) → names_in (ids_from n files) ≡ text_ids (file_texts files)
names-from n [] = refl
names-from n (file ∷ files) =
    names-append (ids_within n file.nodes) (ids_from (n + 1) files)
    ∙ ap (λ (l : List (List ℕ)). l ++ names_in (ids_from (n + 1) files)) (within-names n file.nodes)
    ∙ ap (λ (l : List (List ℕ)). text_ids (node_texts file.nodes) ++ l) (names-from (n + 1) files)
    ∙ sym (ids-append (node_texts file.nodes) (file_texts files))

-- in files that are read no id comes again
pub ids-apart : (signatures : List Signature) (sources : List SourceFile) (files : List FileLines) → reading_of signatures sources ≡ Reads files →
    AreApart (file_texts files)
ids-apart signatures sources files reads =
    let again = (ids_seen (reads_from true 0 sources)).again in
    let before : Chain = to_id sources signatures in
    let places : Chain = before ++ (kind.DuplicateLineId, again) ∷ [] in
    let all = all-none places (lines_of_files sources) files (sym (the-reading signatures sources) ∙ reads) in
    let none = (more-none before kind.DuplicateLineId again all.0).1 in
    let names = ap names_in (ids-reads true 0 sources) ∙ ap (λ (l : List FileLines). names_in (ids_from 0 l)) all.1 ∙ names-from 0 files in
    let fresh = distinct-fresh (names_in (ids_of (reads_from true 0 sources))) (no_sight-distinct (ids_of (reads_from true 0 sources)) none) in
    fresh-apart [] (file_texts files) (subst (Fresh []) names fresh)

pub base_tells : BaseTells
base_tells signatures sources files reads =
    apart-tells (said_in_files (map grown files)) (part-apart (files-part files) (ids-apart signatures sources files reads))
