-- The ids of lines: where no line has an id of its own, and the titles differ, the ids differ.
use Rattle.std.proofs.Common.{◌≡◌, ◌<◌, ◌≤◌, ◌^◌, ℕ, ◌+◌, List, [], ◌∷◌, ◌++◌, map, length, Bool, true, false, ◌||◌, nat_lt, ◌⊎◌, inl, inr, Option, Some, None, refl, sym, ap, ◌∙◌, subst, append_assoc, append-nil, arith, codes}
use Rattle.std.specs.Fmt.{decimal}
use Rattle.std.specs.List.{list_any}
use Rattle.std.proofs.lemmas.Fmt.{decimal_injective, decimal_by_steps}
use Rattle.std.proofs.lemmas.Bool.{ltb-false}
use Rattle.yarn_base.specs.declared.Place.{Place}
use Rattle.yarn_items.specs.Text.{is_id}
use Rattle.yarn_blocks.specs.declared.entry.Entry.{Entry}
use Rattle.yarn_blocks.specs.declared.tree.LineText.{LineText}
use Rattle.yarn_nodes.specs.declared.node.FileRead.{FileRead}
use Rattle.yarn_nodes.specs.declared.node.NodeLines.{NodeLines}
use Rattle.yarn_nodes.specs.declared.node.Titled.{Titled}
use Rattle.yarn_nodes.specs.declared.node.Note.TheVariants as note
use Rattle.yarn_nodes.specs.Entries.{said_by}
use Rattle.yarn_blocks.specs.LineIds.{line_id}
use Rattle.yarn_nodes.specs.Ids.{and_said, id_among}
use Rattle.yarn_nodes.specs.Places.{or_later}
use Rattle.yarn_nodes.proofs.CountedLemmas.{HasCount, Counted, AllCounted, AreTitlesOf, file-counted, file-titles}
use Rattle.yarn_tree.specs.declared.stages.SplitFile.{SplitFile}
use Rattle.yarn_tree.specs.Checks.{noted_in, titles_in, titles_of, titles_seen, and_id, ids_in, ids_within, ids_of, ids_seen, has_own, own_in, is_own, own_within, own_of}
use Rattle.yarn_tree.specs.Laws.{IsAmong, names_in, titles}
use Rattle.yarn_tree.specs.Names.{NameAt}
use Rattle.yarn_tree.specs.Places.{at_file, first_place}
use Rattle.yarn_tree.specs.Reading.{read_of, AreNamed}
use Rattle.yarn_tree.proofs.SightLemmas.{among-append, among-left, among-right, Fresh, no_sight-distinct, distinct-no_sight, fresh-distinct, distinct-fresh}

-- Numbers have no dash, so an id shows its title and its number.

abbrev NoDash : List ℕ → Type 0
NoDash [] = Unit {0}
NoDash (b ∷ bytes) = (b ≡ 45 → ⊥) × NoDash bytes

no_dash-more : (bytes : List ℕ) (b : ℕ) → NoDash bytes → (b ≡ 45 → ⊥) → NoDash (bytes ++ b ∷ [])
no_dash-more [] b none other = (other, tt)
no_dash-more (c ∷ bytes) b none other = (none.0, no_dash-more bytes b none.1 other)

no_dash-decimal : (n : ℕ) → n < 2 ^ 64 → NoDash (decimal n)
no_dash-decimal n lt =
    decimal_by_steps (λ m ds. NoDash ds) (λ m le. (λ e. omega arith, tt)) (λ m ds le none. no_dash-more ds _ none (λ e. omega arith)) n lt

within : (bytes a b : List ℕ) → NoDash bytes → bytes ≡ a ++ 45 ∷ b → ⊥
within [] [] b none e = absurd cc
within [] (c ∷ a) b none e = absurd cc
within (d ∷ bytes) [] b none e = none.0 cc
within (d ∷ bytes) (c ∷ a) b none e = within bytes a b none.1 cc

-- where the last dash stands
last_dash : (a b x y : List ℕ) → NoDash x → NoDash y → a ++ 45 ∷ x ≡ b ++ 45 ∷ y → (a ≡ b) × (x ≡ y)
last_dash [] [] x y nx ny e = (refl, cc)
last_dash [] (c ∷ b) x y nx ny e = absurd (within x b y nx cc)
last_dash (c ∷ a) [] x y nx ny e = absurd (within y a x ny cc)
last_dash (c ∷ a) (d ∷ b) x y nx ny e =
    let rest = last_dash a b x y nx ny cc in
    let same : c ≡ d = cc in (
      ap (λ (n : ℕ). n ∷ a) same ∙ ap (λ (l : List ℕ). d ∷ l) rest.0,
      rest.1,
    )

past_front : (a b : List ℕ) → codes "line:" ++ a ≡ codes "line:" ++ b → a ≡ b
past_front a b e = cc

pub id-shows : (t u : List ℕ) (j k : ℕ) → j < 2 ^ 64 → k < 2 ^ 64 → line_id t j ≡ line_id u k → (t ≡ u) × (j ≡ k)
id-shows t u j k lj lk e =
    let cut = last_dash t u (decimal j) (decimal k) (no_dash-decimal j lj) (no_dash-decimal k lk) (past_front _ _ e) in
    (cut.0, decimal_injective j k lj lk cut.1)

no_own : (tags : List (List ℕ)) (other : List ℕ) → list_any is_id tags ≡ false → id_among tags other ≡ other
no_own [] other none = refl
no_own (t ∷ tags) other none = by_test (no_own tags other) (is_id t) refl
  where
    by_test : (list_any is_id tags ≡ false → id_among tags other ≡ other) → (b : Bool) → is_id t ≡ b → id_among (t ∷ tags) other ≡ other
    by_test later true is = let h : true ≡ false = sym (ap (λ (b : Bool). b || list_any is_id tags) is) ∙ none in absurd cc
    by_test later false is = rw is (later (sym (ap (λ (b : Bool). b || list_any is_id tags) is) ∙ none))

or-false : (a b : Bool) → (a || b) ≡ false → (a ≡ false) × (b ≡ false)
or-false true b is = absurd cc
or-false false b is = (refl, is)

-- each of the names is the id of a place in a node with one of the titles
abbrev IsPlaced : List (List ℕ) → List ℕ → Type 0
IsPlaced ts x = (t : List ℕ) × (k : ℕ) × IsAmong ts t × (k < 2 ^ 64) × (x ≡ line_id t k)

abbrev ArePlaced : List (List ℕ) → List (List ℕ) → Type 0
ArePlaced ts done = (x : List ℕ) → IsAmong done x → IsPlaced ts x

-- each of the names is the id of an earlier place in this node
abbrev AreEarlier : List ℕ → ℕ → List (List ℕ) → Type 0
AreEarlier title k own = (x : List ℕ) → IsAmong own x → (j : ℕ) × (j < k) × (x ≡ line_id title j)

earlier-more : (title : List ℕ) (k : ℕ) (own : List (List ℕ)) → AreEarlier title k own → AreEarlier title (k + 1) (own ++ line_id title k ∷ [])
earlier-more title k own early x is = of (among-append own (line_id title k ∷ []) x is)
  where
    of : IsAmong own x ⊎ IsAmong (line_id title k ∷ []) x → (j : ℕ) × (j < k + 1) × (x ≡ line_id title j)
    of (inl before) = let e = early x before in (e.0, let lt = e.1 in omega arith, e.2)
    of (inr (inl e)) = (k, omega arith, sym e)
    of (inr (inr none)) = absurd none

-- The ids of bodies and nodes.

abbrev with_id : Option LineText → List (List ℕ) → List (List ℕ)
with_id (Some text) names = text.id ∷ names
with_id None names = names

abbrev line_ids : List Entry → List (List ℕ)
line_ids [] = []
line_ids (entry ∷ body) = with_id (said_by entry.what) (line_ids body)

abbrev node_ids : List NodeLines → List (List ℕ)
node_ids [] = []
node_ids (node ∷ nodes) = line_ids node.body ++ node_ids nodes

module _ (title : List ℕ) (ts done : List (List ℕ)) (placed : ArePlaced ts done) (new : IsAmong ts title → ⊥) where
  fresh-here : (own : List (List ℕ)) (k : ℕ) → k < 2 ^ 64 → AreEarlier title k own → IsAmong (done ++ own) (line_id title k) → ⊥
  fresh-here own k lt early is = of (among-append done own (line_id title k) is)
    where
      of : IsAmong done (line_id title k) ⊎ IsAmong own (line_id title k) → ⊥
      of (inl before) =
          let p = placed (line_id title k) before in
          let shows = id-shows title p.0 k p.1 lt p.3 p.4 in
          new (subst (IsAmong ts) (sym shows.0) p.2)
      of (inr before) =
          let e = early (line_id title k) before in
          let lj : e.0 < 2 ^ 64 = let h = e.1 in omega arith in
          let shows = id-shows title title k e.0 lt lj e.2 in
          let a = shows.1 in let b = e.1 in omega arith

  body-fresh : (own : List (List ℕ)) (k : ℕ) (body : List Entry) → k + length body < 2 ^ 64 → AreEarlier title k own → Counted title k body → own_in body ≡ false →
      Fresh (done ++ own) (line_ids body)
  body-fresh own k [] lt early counted plain = tt
  body-fresh own k (entry ∷ body) lt early counted plain =
      by_said (λ o j. body-fresh o j body) (said_by entry.what) counted.0 counted.1 (or-false (has_own (said_by entry.what)) (own_in body) plain)
    where
      by_said : ((o : List (List ℕ)) (j : ℕ) → j + length body < 2 ^ 64 → AreEarlier title j o → Counted title j body → own_in body ≡ false →
          Fresh (done ++ o) (line_ids body)) → (s : Option LineText) → HasCount title k s → Counted title (and_said s k) body →
          (has_own s ≡ false) × (own_in body ≡ false) → Fresh (done ++ own) (with_id s (line_ids body))
      by_said later None here rest cut = later own k (omega arith) early rest cut.1
      by_said later (Some text) here rest cut =
          let id : text.id ≡ line_id title k = here ∙ no_own text.tags (line_id title k) cut.0 in
          let small : k < 2 ^ 64 = omega arith in
          let behind = later (own ++ line_id title k ∷ []) (k + 1) (omega arith) (earlier-more title k own early) rest cut.1 in
          subst (λ (x : List ℕ). Fresh (done ++ own) (x ∷ line_ids body)) (sym id) (
            fresh-here own k small early,
            subst (λ (l : List (List ℕ)). Fresh l (line_ids body)) (sym (append_assoc done own (line_id title k ∷ []))) behind,
          )

abbrev IsNumbered : List ℕ → List ℕ → Type 0
IsNumbered title x = (j : ℕ) × (j < 2 ^ 64) × (x ≡ line_id title j)

body-placed : (title : List ℕ) (k : ℕ) (body : List Entry) → k + length body < 2 ^ 64 → Counted title k body → own_in body ≡ false →
    (x : List ℕ) → IsAmong (line_ids body) x → IsNumbered title x
body-placed title k [] lt counted plain x is = absurd is
body-placed title k (entry ∷ body) lt counted plain x is =
    by_said (λ j. body-placed title j body) (said_by entry.what) counted.0 counted.1 (or-false (has_own (said_by entry.what)) (own_in body) plain) is
  where
    by_said : ((j : ℕ) → j + length body < 2 ^ 64 → Counted title j body → own_in body ≡ false → (y : List ℕ) → IsAmong (line_ids body) y → IsNumbered title y) →
        (s : Option LineText) → HasCount title k s → Counted title (and_said s k) body → (has_own s ≡ false) × (own_in body ≡ false) →
        IsAmong (with_id s (line_ids body)) x → IsNumbered title x
    by_said later None here rest cut among = later k (omega arith) rest cut.1 x among
    by_said later (Some text) here rest cut (inl e) = (k, omega arith, sym e ∙ here ∙ no_own text.tags (line_id title k) cut.0)
    by_said later (Some text) here rest cut (inr among) = later (k + 1) (omega arith) rest cut.1 x among

placed-more : (title : List ℕ) (ts done : List (List ℕ)) (body : List Entry) → ArePlaced ts done → length body < 2 ^ 64 → Counted title 0 body → own_in body ≡ false →
    ArePlaced (ts ++ title ∷ []) (done ++ line_ids body)
placed-more title ts done body placed lt counted plain x is = of (among-append done (line_ids body) x is)
  where
    of : IsAmong done x ⊎ IsAmong (line_ids body) x → IsPlaced (ts ++ title ∷ []) x
    of (inl before) = let p = placed x before in (p.0, p.1, among-left ts (title ∷ []) p.0 p.2, p.3, p.4)
    of (inr here) =
        let whole : 0 + length body < 2 ^ 64 = omega (arith, lt) in
        let p = body-placed title 0 body whole counted plain x here in
        (title, p.0, among-right ts (title ∷ []) title (inl refl), p.1, p.2)

fresh-append : (done a b : List (List ℕ)) → Fresh done a → Fresh (done ++ a) b → Fresh done (a ++ b)
fresh-append done [] b fa fb = subst (λ (l : List (List ℕ)). Fresh l b) (append-nil done) fb
fresh-append done (x ∷ a) b fa fb =
    (fa.0, fresh-append (done ++ x ∷ []) a b fa.1 (subst (λ (l : List (List ℕ)). Fresh l b) (sym (append_assoc done (x ∷ []) a)) fb))

nodes-fresh : (ts done : List (List ℕ)) (nodes : List NodeLines) → ArePlaced ts done → Fresh ts (titles nodes) → AllCounted nodes → own_within nodes ≡ false →
    Fresh done (node_ids nodes)
nodes-fresh ts done [] placed fresh counted plain = tt
nodes-fresh ts done (node ∷ nodes) placed fresh counted plain =
    let cut = or-false (is_own node) (own_within nodes) plain in
    let own = or-false (nat_lt 4294967295 (length node.body)) (own_in node.body) cut.0 in
    let short : length node.body ≤ 4294967295 = ltb-false 4294967295 (length node.body) own.0 in
    let lt : length node.body < 2 ^ 64 = omega (arith, short) in
    let whole : 0 + length node.body < 2 ^ 64 = omega (arith, lt) in
    let here : Fresh (done ++ []) (line_ids node.body) =
    body-fresh node.title ts done placed fresh.0 [] 0 node.body whole (λ x is. absurd is) counted.0 own.1 in
    fresh-append done (line_ids node.body) (node_ids nodes) (subst (λ (l : List (List ℕ)). Fresh l (line_ids node.body)) (append-nil done) here)
    (nodes-fresh (ts ++ node.title ∷ []) (done ++ line_ids node.body) nodes (placed-more node.title ts done node.body placed lt counted.0 own.1) fresh.1 counted.1 cut.1)

-- The same of all files at once.

abbrev nodes_in : List FileRead → List NodeLines
nodes_in [] = []
nodes_in (read ∷ reads) = read.file.nodes ++ nodes_in reads

names-append : (a b : List NameAt) → names_in (a ++ b) ≡ names_in a ++ names_in b
names-append [] b = refl
names-append (x ∷ a) b = ap (λ (l : List (List ℕ)). x.0 ∷ l) (names-append a b)

id-name : (s : Option LineText) (place : Place) (xs : List NameAt) (names : List (List ℕ)) → names_in xs ≡ names → names_in (and_id s place xs) ≡ with_id s names
id-name None place xs names is = is
id-name (Some text) place xs names is = ap (λ (l : List (List ℕ)). text.id ∷ l) is

body-names : (file : ℕ) (body : List Entry) → names_in (ids_in file body) ≡ line_ids body
body-names file [] = refl
body-names file (entry ∷ body) = id-name (said_by entry.what) (record { file = file; line = entry.line }) (ids_in file body) (line_ids body) (body-names file body)

within-names : (file : ℕ) (nodes : List NodeLines) → names_in (ids_within file nodes) ≡ node_ids nodes
within-names file [] = refl
within-names file (node ∷ nodes) =
    names-append (ids_in file node.body) (ids_within file nodes)
    ∙ ap (λ (l : List (List ℕ)). l ++ names_in (ids_within file nodes)) (body-names file node.body)
    ∙ ap (λ (l : List (List ℕ)). line_ids node.body ++ l) (within-names file nodes)

ids-append : (a b : List NodeLines) → node_ids (a ++ b) ≡ node_ids a ++ node_ids b
ids-append [] b = refl
ids-append (node ∷ a) b = ap (λ (l : List (List ℕ)). line_ids node.body ++ l) (ids-append a b) ∙ sym (append_assoc (line_ids node.body) (node_ids a) (node_ids b))

ids-all : (reads : List FileRead) → names_in (ids_of reads) ≡ node_ids (nodes_in reads)
ids-all [] = refl
ids-all (read ∷ reads) =
    names-append (ids_within read.number read.file.nodes) (ids_of reads)
    ∙ ap (λ (l : List (List ℕ)). l ++ names_in (ids_of reads)) (within-names read.number read.file.nodes)
    ∙ ap (λ (l : List (List ℕ)). node_ids read.file.nodes ++ l) (ids-all reads)
    ∙ sym (ids-append read.file.nodes (nodes_in reads))

titles-append : (a b : List NodeLines) → titles (a ++ b) ≡ titles a ++ titles b
titles-append [] b = refl
titles-append (node ∷ a) b = ap (λ (l : List (List ℕ)). node.title ∷ l) (titles-append a b)

titles-are : (file : ℕ) (ts : List Titled) (nodes : List NodeLines) → AreTitlesOf ts nodes → names_in (titles_in file ts) ≡ titles nodes
titles-are file [] [] are = refl
titles-are file [] (node ∷ nodes) are = absurd are
titles-are file (t ∷ ts) [] are = absurd are
titles-are file (t ∷ ts) (node ∷ nodes) are =
    ap (λ (x : List ℕ). x ∷ names_in (titles_in file ts)) are.0 ∙ ap (λ (l : List (List ℕ)). node.title ∷ l) (titles-are file ts nodes are.1)

titles-all : (splits : List SplitFile) → names_in (titles_of (map (read_of true) splits)) ≡ titles (nodes_in (map (read_of true) splits))
titles-all [] = refl
titles-all (split ∷ splits) =
    let read = read_of true split in
    let rest = map (read_of true) splits in
    names-append (titles_in read.number read.titles) (titles_of rest)
    ∙ ap (λ (l : List (List ℕ)). l ++ names_in (titles_of rest))
    (titles-are read.number read.titles read.file.nodes (file-titles true split.number split.name split.lines))
    ∙ ap (λ (l : List (List ℕ)). titles read.file.nodes ++ l) (titles-all splits)
    ∙ sym (titles-append read.file.nodes (nodes_in rest))

counted-append : (a b : List NodeLines) → AllCounted a → AllCounted b → AllCounted (a ++ b)
counted-append [] b ca cb = cb
counted-append (node ∷ a) b ca cb = (ca.0, counted-append a b ca.1 cb)

or-none : {A : Type 0} (a b : Option A) → or_later a b ≡ None → (a ≡ None) × (b ≡ None)
or-none None b is = (refl, is)
or-none (Some x) b is = absurd cc

at-none : (file : ℕ) (o : Option ℕ) → at_file file o ≡ None → o ≡ None
at-none file None is = refl
at-none file (Some line) is = absurd cc

all-counted : (splits : List SplitFile) → first_place (noted_in note.Misplaced) (map (read_of true) splits) ≡ None →
    first_place (noted_in note.Mistitled) (map (read_of true) splits) ≡ None → AllCounted (nodes_in (map (read_of true) splits))
all-counted [] placed titled = tt
all-counted (split ∷ splits) placed titled =
    let read = read_of true split in
    let rest = map (read_of true) splits in
    let a = or-none (noted_in note.Misplaced read) (first_place (noted_in note.Misplaced) rest) placed in
    let b = or-none (noted_in note.Mistitled read) (first_place (noted_in note.Mistitled) rest) titled in
    counted-append read.file.nodes (nodes_in rest)
    (file-counted split.number split.name split.lines (at-none read.number read.notes.misplaced a.0) (at-none read.number read.notes.mistitled b.0))
    (all-counted splits a.1 b.1)

own-append : (a b : List NodeLines) → own_within a ≡ false → own_within b ≡ false → own_within (a ++ b) ≡ false
own-append [] b na nb = nb
own-append (node ∷ a) b na nb =
    let cut = or-false (is_own node) (own_within a) na in
    rw cut.0 (own-append a b cut.1 nb)

own-all : (reads : List FileRead) → own_of reads ≡ false → own_within (nodes_in reads) ≡ false
own-all [] none = refl
own-all (read ∷ reads) none =
    let cut = or-false (own_within read.file.nodes) (own_of reads) none in
    own-append read.file.nodes (nodes_in reads) cut.0 (own-all reads cut.1)

-- where no line has an id of its own, and titles differ, no id comes again
none-again : (splits : List SplitFile) → first_place (noted_in note.Misplaced) (map (read_of true) splits) ≡ None →
    first_place (noted_in note.Mistitled) (map (read_of true) splits) ≡ None → (titles_seen (map (read_of true) splits)).again ≡ None →
    own_of (map (read_of true) splits) ≡ false → (ids_seen (map (read_of true) splits)).again ≡ None
none-again splits placed titled differ plain =
    let reads = map (read_of true) splits in
    let nodes = nodes_in reads in
    let fresh_titles : Fresh [] (titles nodes) = subst (Fresh []) (titles-all splits) (distinct-fresh (names_in (titles_of reads)) (no_sight-distinct (titles_of reads) differ)) in
    let fresh = nodes-fresh [] [] nodes (λ x is. absurd is) fresh_titles (all-counted splits placed titled) (own-all reads plain) in
    distinct-no_sight (ids_of reads) (fresh-distinct (names_in (ids_of reads)) (subst (Fresh []) (sym (ids-all reads)) fresh))

pub named_plain : (reads : List FileRead) → AreNamed reads → own_of reads ≡ false → (ids_seen reads).again ≡ None
named_plain reads named plain =
    let e = named.is in
    ap (λ (l : List FileRead). (ids_seen l).again) e
    ∙ none-again named.splits (ap (first_place (noted_in note.Misplaced)) (sym e) ∙ named.placed) (ap (first_place (noted_in note.Mistitled)) (sym e) ∙ named.titled)
    (ap (λ (l : List FileRead). (titles_seen l).again) (sym e) ∙ named.differ) (ap own_of (sym e) ∙ plain)
