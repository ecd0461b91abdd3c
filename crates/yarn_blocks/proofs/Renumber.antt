-- Entries that differ in numbers of lines alone stand for statements that differ in these alone.
use Rattle.std.proofs.Common.{◌≡◌, ℕ, ◌+◌, ◌≤◌, List, [], ◌∷◌, ◌++◌, refl, sym, ap, ◌∙◌, subst, append_assoc}
use mathlib.Core.Path.{ap₂}
use Rattle.std.specs.Prelude.{map}
use Rattle.yarn_blocks.specs.declared.tree.Head.{Head}
use Rattle.yarn_blocks.specs.declared.entry.Entry.{Entry}
use Rattle.yarn_blocks.specs.declared.entry.Simple.{Simple}
use Rattle.yarn_blocks.specs.declared.entry.What.{What}
use Rattle.yarn_blocks.specs.declared.entry.What.TheVariants.{Statement, Offer, If, ElseIf, Else, EndIf}
use Rattle.yarn_blocks.specs.Tree.{Offered, Asked, Leaf, Group, Choice, Stmts, Nil, Cons, Clauses, NoClauses, AndClause, Last, NoElse, ElseOf, and_option}
use Rattle.yarn_blocks.specs.Block.{run_of, Block, empty, statement, option, choice, Tail, ends, otherwise, next}
use Rattle.yarn_blocks.specs.Layout.{simple_without_line, what_without_line, entry_without_line, stmts_without_lines, clauses_without_lines, last_without_lines}
use Rattle.yarn_blocks.proofs.Only.{From, Ends, run-deep, run-ends}
use Rattle.yarn_blocks.proofs.Found.{run-found}
use Rattle.yarn_blocks.proofs.Laid.{map_join}

abbrev pub bare : List Entry → List Entry
bare xs = map entry_without_line xs

abbrev bare_head : Head → Head
bare_head e = record e { line = 0 }

abbrev bare_offered : Offered → Offered
bare_offered n = record n { text = record n.text { line = 0 } }

abbrev bare_asked : Asked → Asked
bare_asked n = record n { head = bare_head n.head }

-- what stands on a line, or else what is given
abbrev simple_in : Simple → What → Simple
simple_in other (Statement s) = s
simple_in other _ = other

abbrev offered_in : Offered → What → Offered
offered_in other (Offer text condition) = record { text = text; condition = condition }
offered_in other _ = other

abbrev asked_in : Asked → What → Asked
asked_in other (If head condition) = record { head = head; condition = condition }
asked_in other (ElseIf head condition) = record { head = head; condition = condition }
asked_in other _ = other

abbrev head_in : Head → What → Head
head_in other (Else head) = head
head_in other (EndIf head) = head
head_in other _ = other

-- the line is such a line, and its contents differ in the number of the line alone
record Alike {A : Type 0} (shape : A → What) (without_line : A → A) (n : A) (w : What) : Type 0 where
  pub other : A
  pub is : w ≡ shape other
  pub same : without_line n ≡ without_line other

abbrev offer : Offered → What
offer n = Offer n.text n.condition

abbrev if_line : Asked → What
if_line n = If n.head n.condition

abbrev else_if_line : Asked → What
else_if_line n = ElseIf n.head n.condition

statement_alike : (n : Simple) (w : What) → what_without_line (Statement n) ≡ what_without_line w → Alike Statement simple_without_line n w
statement_alike n (Statement s) e = record { other = s; is = refl; same = ap (simple_in n) e }
statement_alike n (Offer text condition) e = absurd (cc)
statement_alike n (If head condition) e = absurd (cc)
statement_alike n (ElseIf head condition) e = absurd (cc)
statement_alike n (Else head) e = absurd (cc)
statement_alike n (EndIf head) e = absurd (cc)

offer_alike : (n : Offered) (w : What) → what_without_line (offer n) ≡ what_without_line w → Alike offer bare_offered n w
offer_alike n (Statement s) e = absurd (cc)
offer_alike n (Offer text condition) e = record { other = record { text = text; condition = condition }; is = refl; same = ap (offered_in n) e }
offer_alike n (If head condition) e = absurd (cc)
offer_alike n (ElseIf head condition) e = absurd (cc)
offer_alike n (Else head) e = absurd (cc)
offer_alike n (EndIf head) e = absurd (cc)

if_alike : (n : Asked) (w : What) → what_without_line (if_line n) ≡ what_without_line w → Alike if_line bare_asked n w
if_alike n (Statement s) e = absurd (cc)
if_alike n (Offer text condition) e = absurd (cc)
if_alike n (If head condition) e = record { other = record { head = head; condition = condition }; is = refl; same = ap (asked_in n) e }
if_alike n (ElseIf head condition) e = absurd (cc)
if_alike n (Else head) e = absurd (cc)
if_alike n (EndIf head) e = absurd (cc)

else_if_alike : (n : Asked) (w : What) → what_without_line (else_if_line n) ≡ what_without_line w → Alike else_if_line bare_asked n w
else_if_alike n (Statement s) e = absurd (cc)
else_if_alike n (Offer text condition) e = absurd (cc)
else_if_alike n (If head condition) e = absurd (cc)
else_if_alike n (ElseIf head condition) e = record { other = record { head = head; condition = condition }; is = refl; same = ap (asked_in n) e }
else_if_alike n (Else head) e = absurd (cc)
else_if_alike n (EndIf head) e = absurd (cc)

else_alike : (n : Head) (w : What) → what_without_line (Else n) ≡ what_without_line w → Alike Else bare_head n w
else_alike n (Statement s) e = absurd (cc)
else_alike n (Offer text condition) e = absurd (cc)
else_alike n (If head condition) e = absurd (cc)
else_alike n (ElseIf head condition) e = absurd (cc)
else_alike n (Else head) e = record { other = head; is = refl; same = ap (head_in n) e }
else_alike n (EndIf head) e = absurd (cc)

end_alike : (n : Head) (w : What) → what_without_line (EndIf n) ≡ what_without_line w → Alike EndIf bare_head n w
end_alike n (Statement s) e = absurd (cc)
end_alike n (Offer text condition) e = absurd (cc)
end_alike n (If head condition) e = absurd (cc)
end_alike n (ElseIf head condition) e = absurd (cc)
end_alike n (Else head) e = absurd (cc)
end_alike n (EndIf head) e = record { other = head; is = refl; same = ap (head_in n) e }

-- the front of a list and the rest of it, each as those of another
record Split (a b ys : List Entry) : Type 0 where
  pub front : List Entry
  pub back : List Entry
  pub cut : ys ≡ front ++ back
  pub first : bare a ≡ bare front
  pub second : bare b ≡ bare back

record First (x : Entry) (xs ys : List Entry) : Type 0 where
  pub entry : Entry
  pub rest : List Entry
  pub cut : ys ≡ entry ∷ rest
  pub deep : x.indent ≡ entry.indent
  pub what : what_without_line x.what ≡ what_without_line entry.what
  pub more : bare xs ≡ bare rest

abbrev first_of_list : Entry → List Entry → Entry
first_of_list other [] = other
first_of_list other (x ∷ xs) = x

abbrev rest_of_list : List Entry → List Entry
rest_of_list [] = []
rest_of_list (x ∷ xs) = xs

first : (x : Entry) (xs ys : List Entry) → bare (x ∷ xs) ≡ bare ys → First x xs ys
first x xs [] e = absurd (cc)
first x xs (y ∷ ys) e =
    let one : entry_without_line x ≡ entry_without_line y = ap (first_of_list x) e in
    record { entry = y; rest = ys; cut = refl; deep = ap (λ (z : Entry). z.indent) one; what = ap (λ (z : Entry). z.what) one; more = ap rest_of_list e }

split : (a b ys : List Entry) → bare (a ++ b) ≡ bare ys → Split a b ys
split [] b ys e = record { front = []; back = ys; cut = refl; first = refl; second = e }
split (x ∷ a) b [] e = absurd (cc)
split (x ∷ a) b (y ∷ ys) e =
    let r = split a b ys (ap rest_of_list e) in
    record { front = y ∷ r.front; back = r.back; cut = ap (λ l. y ∷ l) r.cut; first = ap₂ (λ z l. z ∷ l) (ap (first_of_list x) e) r.first; second = r.second }

-- indents are kept
from_alike : (low : ℕ) (a b : List Entry) → bare a ≡ bare b → From low a → From low b
from_alike low a [] e h = tt
from_alike low [] (y ∷ b) e h = absurd (cc)
from_alike low (x ∷ a) (y ∷ b) e h =
    (subst (λ i. low ≤ i) (ap (λ (l : List Entry). (first_of_list x l).indent) e) h.0, from_alike low a b (ap rest_of_list e) h.1)

ends_alike : (k : ℕ) (a b : List Entry) → bare a ≡ bare b → Ends k a → Ends k b
ends_alike k a [] e h = tt
ends_alike k [] (y ∷ b) e h = absurd (cc)
ends_alike k (x ∷ a) (y ∷ b) e h = subst (λ i. i ≤ k) (ap (λ (l : List Entry). (first_of_list x l).indent) e) h

-- so the run is as long
run_alike : (k : ℕ) (run rest run' rest' : List Entry) → bare run ≡ bare run' → bare rest ≡ bare rest' → run_of k (run ++ rest) ≡ run → run_of k (run' ++ rest') ≡ run'
run_alike k run rest run' rest' p q e =
    run-found k run' rest' (from_alike (k + 1) run run' p (run-deep k run rest e)) (ends_alike k rest rest' q (run-ends k run rest e))

join : (a b c d : List Entry) → bare a ≡ bare c → bare b ≡ bare d → bare (a ++ b) ≡ bare (c ++ d)
join a b c d p q = map_join entry_without_line a b c d p q

and_option-bare : (n : Offered) (body b : Stmts) → stmts_without_lines (and_option n body b) ≡ and_option (bare_offered n) (stmts_without_lines body) (stmts_without_lines b)
and_option-bare n body Nil = refl
and_option-bare n body (Cons (Leaf m) b) = refl
and_option-bare n body (Cons (Group os) b) = refl
and_option-bare n body (Cons (Choice cs last e) b) = refl

same_option : (n m : Offered) (body body' b b' : Stmts) → bare_offered n ≡ bare_offered m → stmts_without_lines body ≡ stmts_without_lines body' → stmts_without_lines b ≡ stmts_without_lines b' →
    stmts_without_lines (and_option n body b) ≡ stmts_without_lines (and_option m body' b')
same_option n m body body' b b' p q r =
    and_option-bare n body b
    ∙ ap (λ k. and_option k (stmts_without_lines body) (stmts_without_lines b)) p
    ∙ ap₂ (and_option (bare_offered m)) q r
    ∙ sym (and_option-bare m body' b')

same_clauses : (n m : Asked) (body body' : Stmts) (cs cs' : Clauses) → bare_asked n ≡ bare_asked m → stmts_without_lines body ≡ stmts_without_lines body' → clauses_without_lines cs ≡ clauses_without_lines cs' →
    clauses_without_lines (AndClause n body cs) ≡ clauses_without_lines (AndClause m body' cs')
same_clauses n m body body' cs cs' p q r =
    ap (λ k. AndClause k (stmts_without_lines body) (clauses_without_lines cs)) p ∙ ap₂ (AndClause (bare_asked m)) q r

same_choice : (cs cs' : Clauses) (last last' : Last) (e e' : Head) (b b' : Stmts) → clauses_without_lines cs ≡ clauses_without_lines cs' → last_without_lines last ≡ last_without_lines last' → bare_head e ≡ bare_head e' → stmts_without_lines b ≡ stmts_without_lines b' →
    stmts_without_lines (Cons (Choice cs last e) b) ≡ stmts_without_lines (Cons (Choice cs' last' e') b')
same_choice cs cs' last last' e e' b b' p q r s =
    ap₂ (λ k l. Cons (Choice k l (bare_head e)) (stmts_without_lines b)) p q
    ∙ ap₂ (λ d c. Cons (Choice (clauses_without_lines cs') (last_without_lines last') d) c) r s

-- the entries stand for statements that are the same but for numbers of lines
record Stands (ys behind : List Entry) (b : Stmts) : Type 0 where
  pub stmts : Stmts
  pub block : Block ys behind stmts
  pub same : stmts_without_lines b ≡ stmts_without_lines stmts

record StandsTail (ys behind : List Entry) (cs : Clauses) (last : Last) (e : Head) : Type 0 where
  pub clauses : Clauses
  pub otherwise : Last
  pub end : Head
  pub tail : Tail ys behind clauses otherwise end
  pub same_clauses : clauses_without_lines cs ≡ clauses_without_lines clauses
  pub same_last : last_without_lines last ≡ last_without_lines otherwise
  pub same_end : bare_head e ≡ bare_head end

-- what holds of a list whatever list with other numbers of lines it is, and whatever is behind it
abbrev Renumbers : List Entry → List Entry → Stmts → Type 0
Renumbers xs behind b = (ys behind' : List Entry) → bare xs ≡ bare ys → bare behind ≡ bare behind' → Stands ys behind' b

abbrev RenumbersTail : List Entry → List Entry → Clauses → Last → Head → Type 0
RenumbersTail xs behind cs last e = (ys behind' : List Entry) → bare xs ≡ bare ys → bare behind ≡ bare behind' → StandsTail ys behind' cs last e

with_empty : (behind : List Entry) → Renumbers [] behind Nil
with_empty behind [] behind' e h = record { stmts = Nil; block = empty; same = refl }
with_empty behind (y ∷ ys) behind' e h = absurd (cc)

with_statement : (x : Entry) (n : Simple) (xs behind : List Entry) (b : Stmts) → x.what ≡ Statement n → Renumbers xs behind b → Renumbers (x ∷ xs) behind (Cons (Leaf n) b)
with_statement x n xs behind b w more ys behind' e h =
    let f = first x xs ys e in
    let s = statement_alike n f.entry.what (ap what_without_line (sym w) ∙ f.what) in
    let r = more f.rest behind' f.more h in
    subst (λ l. Stands l behind' (Cons (Leaf n) b)) (sym f.cut)
    (record { stmts = Cons (Leaf s.other) r.stmts; block = statement s.is r.block; same = ap₂ (λ m c. Cons (Leaf m) c) s.same r.same })

with_option : (x : Entry) (n : Offered) (run xs behind : List Entry) (body b : Stmts) → x.what ≡ offer n → run_of x.indent ((run ++ xs) ++ behind) ≡ run →
    Renumbers run (xs ++ behind) body → Renumbers xs behind b → Renumbers (x ∷ (run ++ xs)) behind (and_option n body b)
with_option x n run xs behind body b w found inner more ys behind' e h =
    let f = first x (run ++ xs) ys e in
    let s = offer_alike n f.entry.what (ap what_without_line (sym w) ∙ f.what) in
    let c = split run xs f.rest f.more in
    let back : bare (xs ++ behind) ≡ bare (c.back ++ behind') = join xs behind c.back behind' c.second h in
    let i = inner c.front (c.back ++ behind') c.first back in
    let r = more c.back behind' c.second h in
    let run' : run_of f.entry.indent ((c.front ++ c.back) ++ behind') ≡ c.front =
    subst (λ k. run_of k ((c.front ++ c.back) ++ behind') ≡ c.front) f.deep
    (ap (run_of x.indent) (append_assoc c.front c.back behind')
    ∙ run_alike x.indent run (xs ++ behind) c.front (c.back ++ behind') c.first back (ap (run_of x.indent) (sym (append_assoc run xs behind)) ∙ found)) in
    subst (λ l. Stands l behind' (and_option n body b)) (sym (f.cut ∙ ap (λ l. f.entry ∷ l) c.cut))
    (record {
      stmts = and_option s.other i.stmts r.stmts;
      block = option s.is run' i.block r.block;
      same = same_option n s.other body i.stmts b r.stmts s.same i.same r.same;
    })

with_choice : (x : Entry) (n : Asked) (e : Head) (xs rest ys behind : List Entry) (b c : Stmts) (cs : Clauses) (last : Last) → x.what ≡ if_line n →
    Renumbers xs (rest ++ (ys ++ behind)) b → RenumbersTail rest (ys ++ behind) cs last e → Renumbers ys behind c → Renumbers (x ∷ (xs ++ (rest ++ ys))) behind (Cons (Choice (AndClause n b cs) last e) c)
with_choice x n e xs rest ys behind b c cs last w inner left more zs behind' eq h =
    let f = first x (xs ++ (rest ++ ys)) zs eq in
    let s = if_alike n f.entry.what (ap what_without_line (sym w) ∙ f.what) in
    let p = split xs (rest ++ ys) f.rest f.more in
    let q = split rest ys p.back p.second in
    let back : bare (ys ++ behind) ≡ bare (q.back ++ behind') = join ys behind q.back behind' q.second h in
    let i = inner p.front (q.front ++ (q.back ++ behind')) p.first (join rest (ys ++ behind) q.front (q.back ++ behind') q.first back) in
    let t = left q.front (q.back ++ behind') q.first back in
    let r = more q.back behind' q.second h in
    subst (λ l. Stands l behind' (Cons (Choice (AndClause n b cs) last e) c)) (sym (f.cut ∙ ap (λ l. f.entry ∷ l) (p.cut ∙ ap (λ l. p.front ++ l) q.cut)))
    (record {
      stmts = Cons (Choice (AndClause s.other i.stmts t.clauses) t.otherwise t.end) r.stmts;
      block = choice s.is i.block t.tail r.block;
      same =
          same_choice (AndClause n b cs) (AndClause s.other i.stmts t.clauses) last t.otherwise e t.end c r.stmts
          (same_clauses n s.other b i.stmts cs t.clauses s.same i.same t.same_clauses) t.same_last t.same_end r.same;
    })

none_left : (ys : List Entry) → bare [] ≡ bare ys → ys ≡ []
none_left [] e = refl
none_left (y ∷ ys) e = absurd (cc)

with_end : (x : Entry) (e : Head) (behind : List Entry) → x.what ≡ EndIf e → RenumbersTail (x ∷ []) behind NoClauses NoElse e
with_end x e behind w zs behind' eq h =
    let f = first x [] zs eq in
    let s = end_alike e f.entry.what (ap what_without_line (sym w) ∙ f.what) in
    subst (λ l. StandsTail l behind' NoClauses NoElse e) (sym (f.cut ∙ ap (λ l. f.entry ∷ l) (none_left f.rest f.more)))
    (record { clauses = NoClauses; otherwise = NoElse; end = s.other; tail = ends s.is; same_clauses = refl; same_last = refl; same_end = s.same })

with_otherwise : (x y : Entry) (n e : Head) (xs behind : List Entry) (b : Stmts) → x.what ≡ Else n → Renumbers xs (y ∷ behind) b → y.what ≡ EndIf e → RenumbersTail (x ∷ (xs ++ y ∷ [])) behind NoClauses (ElseOf n b) e
with_otherwise x y n e xs behind b w inner v zs behind' eq h =
    let f = first x (xs ++ y ∷ []) zs eq in
    let s = else_alike n f.entry.what (ap what_without_line (sym w) ∙ f.what) in
    let c = split xs (y ∷ []) f.rest f.more in
    let g = first y [] c.back c.second in
    let t = end_alike e g.entry.what (ap what_without_line (sym v) ∙ g.what) in
    let last : c.back ≡ g.entry ∷ [] = g.cut ∙ ap (λ l. g.entry ∷ l) (none_left g.rest g.more) in
    let i = inner c.front (g.entry ∷ behind') c.first (join (y ∷ []) behind (g.entry ∷ []) behind' (c.second ∙ ap bare last) h) in
    subst (λ l. StandsTail l behind' NoClauses (ElseOf n b) e) (sym (f.cut ∙ ap (λ l. f.entry ∷ l) (c.cut ∙ ap (λ l. c.front ++ l) last)))
    (record {
      clauses = NoClauses;
      otherwise = ElseOf s.other i.stmts;
      end = t.other;
      tail = otherwise s.is i.block t.is;
      same_clauses = refl;
      same_last = ap₂ (λ m u. ElseOf m u) s.same i.same;
      same_end = t.same;
    })

with_next : (x : Entry) (n : Asked) (e : Head) (xs rest behind : List Entry) (b : Stmts) (cs : Clauses) (last : Last) → x.what ≡ else_if_line n →
    Renumbers xs (rest ++ behind) b → RenumbersTail rest behind cs last e → RenumbersTail (x ∷ (xs ++ rest)) behind (AndClause n b cs) last e
with_next x n e xs rest behind b cs last w inner left zs behind' eq h =
    let f = first x (xs ++ rest) zs eq in
    let s = else_if_alike n f.entry.what (ap what_without_line (sym w) ∙ f.what) in
    let c = split xs rest f.rest f.more in
    let i = inner c.front (c.back ++ behind') c.first (join rest behind c.back behind' c.second h) in
    let t = left c.back behind' c.second h in
    subst (λ l. StandsTail l behind' (AndClause n b cs) last e) (sym (f.cut ∙ ap (λ l. f.entry ∷ l) c.cut))
    (record {
      clauses = AndClause s.other i.stmts t.clauses;
      otherwise = t.otherwise;
      end = t.end;
      tail = next s.is i.block t.tail;
      same_clauses = same_clauses n s.other b i.stmts cs t.clauses s.same i.same t.same_clauses;
      same_last = t.same_last;
      same_end = t.same_end;
    })

mutual
  renumbers : {xs behind : List Entry} {b : Stmts} → Block xs behind b → Renumbers xs behind b
  renumbers (empty {behind = behind}) = with_empty behind
  renumbers (statement {x = x} {n = n} {xs = xs} {behind = behind} {b = b} w r) = with_statement x n xs behind b w (renumbers r)
  renumbers (option {x = x} {n = n} {run = run} {xs = xs} {behind = behind} {body = body} {b = b} w e inner r) =
      with_option x n run xs behind body b w e (renumbers inner) (renumbers r)
  renumbers (choice {x = x} {n = n} {e = e} {xs = xs} {rest = rest} {ys = ys} {behind = behind} {b = b} {c = c} {cs = cs} {last = last} w inner left r) =
      with_choice x n e xs rest ys behind b c cs last w (renumbers inner) (renumbers_tail left) (renumbers r)

  renumbers_tail : {xs behind : List Entry} {cs : Clauses} {last : Last} {e : Head} → Tail xs behind cs last e → RenumbersTail xs behind cs last e
  renumbers_tail (ends {x = x} {e = e} {behind = behind} w) = with_end x e behind w
  renumbers_tail (otherwise {x = x} {y = y} {n = n} {e = e} {xs = xs} {behind = behind} {b = b} w inner v) = with_otherwise x y n e xs behind b w (renumbers inner) v
  renumbers_tail (next {x = x} {n = n} {e = e} {xs = xs} {rest = rest} {behind = behind} {b = b} {cs = cs} {last = last} w inner left) =
      with_next x n e xs rest behind b cs last w (renumbers inner) (renumbers_tail left)

pub lines_tell_nothing : (xs ys : List Entry) (b : Stmts) → bare xs ≡ bare ys → Block xs [] b → (c : Stmts) × (Block ys [] c × (stmts_without_lines b ≡ stmts_without_lines c))
lines_tell_nothing xs ys b e r = let s = renumbers r ys [] e refl in (s.stmts, (s.block, s.same))
