-- The place where items stop to be the items of a file.
use Rattle.std.proofs.Common.{◌≡◌, ℕ, List, [], ◌∷◌, ◌++◌, true, Option, Some, None, ◌⊎◌, inl, inr, refl, sym, ap, ◌∙◌, subst, append_assoc, append-nil}
use Rattle.yarn_lines.specs.Lines.{lines_of}
use Rattle.yarn_items.specs.declared.item.Header.{Header}
use Rattle.yarn_items.specs.declared.item.Mode.{Mode}
use Rattle.yarn_items.specs.declared.item.Mode.TheVariants.{InHeaders, InBody}
use Rattle.yarn_items.specs.declared.item.Item.{Item}
use Rattle.yarn_items.specs.declared.item.Item.TheVariants as item
use Rattle.yarn_items.specs.Laws.{ItemsAreFound}
use Rattle.yarn_blocks.specs.declared.entry.Entry.{Entry}
use Rattle.yarn_blocks.specs.declared.mark.Mark.{Mark}
use Rattle.yarn_blocks.specs.declared.verdict.Excess.{Excess}
use Rattle.yarn_blocks.specs.declared.verdict.Verdict.{Verdict}
use Rattle.yarn_blocks.specs.declared.verdict.Verdict.TheVariants as verdict
use Rattle.yarn_blocks.specs.Entries.{mark_of}
use Rattle.yarn_blocks.specs.Outline.{verdict_in}
use Rattle.yarn_nodes.specs.declared.structure.Stand.{Stand}
use Rattle.yarn_nodes.specs.declared.structure.Stand.TheVariants.{Front, Between, Headed, Inside}
use Rattle.yarn_nodes.specs.declared.node.FileLines.{FileLines}
use Rattle.yarn_nodes.specs.declared.node.NodeLines.{NodeLines}
use Rattle.yarn_nodes.specs.Entries.{ItemAt, AreEntries}
use Rattle.yarn_nodes.specs.Finds.{next_mode}
use Rattle.yarn_nodes.specs.Laws.{BeginFile, AreOfFile, IsMisplacedAt, at_line, at_end, MisplacedIsNoted}
use Rattle.yarn_nodes.specs.Lines.{AreTags, no_tag, next_tag, AreHeaders, no_header, next_header, IsNode, AreNodes, no_node, first_node, IsFile}
use Rattle.yarn_nodes.specs.Nodes.{tags_of, no_draft, nodes_from}
use Rattle.yarn_nodes.specs.Places.{or_later}
use Rattle.yarn_nodes.specs.Structure.{mode_of, stand_behind, header_behind, marks_past, marks_behind, body_fault, cut_fault, misplaced_at, first_misplaced}
use Rattle.yarn_nodes.proofs.EntryLemmas.{HasGiven, IsBodyItem, is_body_item, entry-mark, body-entry}
use Rattle.yarn_nodes.proofs.FileLemmas.{misplaced-step, body-stand, body-placed, entry-fine, file-fine, node-cut}
use Rattle.yarn_nodes.proofs.FoundLemmas.{FitsMode, Fit, body-mode, file-found}
use Rattle.yarn_nodes.proofs.LinesLemmas.{items_in, items-fit, items-have, fine-items}
use Rattle.yarn_nodes.proofs.ViableLemmas.{IsGood, bad-stays, bad-last, good-ends, item_of, item_at, shape-body, item-mark}

header-mode : (stand : Stand) → mode_of (header_behind stand) ≡ mode_of stand
header-mode Front = refl
header-mode Between = refl
header-mode Headed = refl
header-mode Inside = refl

behind-mode : (stand : Stand) (i : Item) → mode_of (stand_behind stand i) ≡ next_mode (mode_of stand) i
behind-mode stand (item.FileTag tag) = refl
behind-mode stand (item.Header header) = header-mode stand
behind-mode stand item.BodyBegins = refl
behind-mode stand item.NodeEnds = refl
behind-mode stand (item.Line said) = refl
behind-mode stand (item.Offer said asked) = refl
behind-mode stand (item.Command own tags) = refl
behind-mode stand (item.Game said) = refl

fit-past : (stand : Stand) (x : ItemAt) (xs : List ItemAt) → Fit (next_mode (mode_of stand) x.item) xs → Fit (mode_of (stand_behind stand x.item)) xs
fit-past stand x xs fit = subst (λ (m : Mode). Fit m xs) (sym (behind-mode stand x.item)) fit

past-fit : (stand : Stand) (x : ItemAt) (xs : List ItemAt) → Fit (mode_of (stand_behind stand x.item)) xs → Fit (next_mode (mode_of stand) x.item) xs
past-fit stand x xs fit = subst (λ (m : Mode). Fit m xs) (behind-mode stand x.item) fit

fits-body : (i : Item) → FitsMode InBody i → (i ≡ item.NodeEnds) ⊎ IsBodyItem i
fits-body (item.FileTag tag) fit = absurd fit
fits-body (item.Header header) fit = absurd fit
fits-body item.BodyBegins fit = absurd fit
fits-body item.NodeEnds fit = inl refl
fits-body (item.Line said) fit = inr tt
fits-body (item.Offer said asked) fit = inr tt
fits-body (item.Command own tags) fit = inr fit
fits-body (item.Game said) fit = inr tt

body-fits : (i : Item) → IsBodyItem i → FitsMode InBody i
body-fits (item.FileTag tag) is = absurd is
body-fits (item.Header header) is = absurd is
body-fits item.BodyBegins is = absurd is
body-fits item.NodeEnds is = absurd is
body-fits (item.Line said) is = tt
body-fits (item.Offer said asked) is = tt
body-fits (item.Command own tags) is = is
body-fits (item.Game said) is = tt

-- items that stand where they may, behind that
abbrev Stands : Stand → List Mark → ℕ → List ItemAt → Type 0
Stands stand marks end xs = Fit (mode_of stand) xs × (first_misplaced stand marks end xs ≡ None)

-- with some more of them
record Closes (stand : Stand) (marks : List Mark) (end : ℕ) (xs : List ItemAt) : Type 0 where
  pub more : List ItemAt
  pub stands : Stands stand marks end (xs ++ more)

-- One item more.

past : (stand : Stand) (marks : List Mark) (end : ℕ) (x : ItemAt) (xs : List ItemAt) → misplaced_at stand marks x.line x.item ≡ None →
    first_misplaced stand marks end (x ∷ xs) ≡ first_misplaced (stand_behind stand x.item) (marks_behind marks x) end xs
past stand marks end x xs is = ap (λ (o : Option ℕ). or_later o (first_misplaced (stand_behind stand x.item) (marks_behind marks x) end xs)) is

stopped : (stand : Stand) (marks : List Mark) (end : ℕ) (x : ItemAt) (xs : List ItemAt) (number : ℕ) → misplaced_at stand marks x.line x.item ≡ Some number →
    first_misplaced stand marks end (x ∷ xs) ≡ Some number
stopped stand marks end x xs number is =
    ap (λ (o : Option ℕ). or_later o (first_misplaced (stand_behind stand x.item) (marks_behind marks x) end xs)) is

closes-past : (stand : Stand) (marks : List Mark) (end : ℕ) (x : ItemAt) (xs : List ItemAt) → misplaced_at stand marks x.line x.item ≡ None →
    FitsMode (mode_of stand) x.item → Closes (stand_behind stand x.item) (marks_behind marks x) end xs → Closes stand marks end (x ∷ xs)
closes-past stand marks end x xs is fits c = record {
  more = c.more;
  stands = ((fits, past-fit stand x (xs ++ c.more) c.stands.0), past stand marks end x (xs ++ c.more) is ∙ c.stands.1);
}

past-closes : (stand : Stand) (marks : List Mark) (end : ℕ) (x : ItemAt) (xs : List ItemAt) → misplaced_at stand marks x.line x.item ≡ None →
    Closes stand marks end (x ∷ xs) → Closes (stand_behind stand x.item) (marks_behind marks x) end xs
past-closes stand marks end x xs is c = record {
  more = c.more;
  stands = (fit-past stand x (xs ++ c.more) c.stands.0.1, sym (past stand marks end x (xs ++ c.more) is) ∙ c.stands.1);
}

stopped-open : (stand : Stand) (marks : List Mark) (end : ℕ) (x : ItemAt) (xs : List ItemAt) (number : ℕ) → misplaced_at stand marks x.line x.item ≡ Some number →
    Closes stand marks end (x ∷ xs) → ⊥
stopped-open stand marks end x xs number is c =
    let e : Some number ≡ None = sym (stopped stand marks end x (xs ++ c.more) number is) ∙ c.stands.1 in absurd cc

-- What is begun can be closed.

abbrev a_body : ItemAt
a_body = record { line = 0; indent = 0; item = item.BodyBegins }

abbrev an_end : ItemAt
an_end = record { line = 0; indent = 0; item = item.NodeEnds }

-- items with those marks, and the end of their body
abbrev to_end : List Mark → List ItemAt
to_end [] = an_end ∷ []
to_end (m ∷ ms) = item_at m ∷ to_end ms

end-fit : (ms : List Mark) → Fit InBody (to_end ms)
end-fit [] = (tt, tt)
end-fit (m ∷ ms) =
    let body = shape-body m.shape in
    (body-fits (item_of m.shape) body, subst (λ (mode : Mode). Fit mode (to_end ms)) (sym (body-mode InBody (item_of m.shape) body)) (end-fit ms))

body-past : (marks : List Mark) (end : ℕ) (m : Mark) (xs : List ItemAt) →
    first_misplaced Inside marks end (item_at m ∷ xs) ≡ first_misplaced Inside (marks ++ m ∷ []) end xs
body-past marks end m xs =
    let body = shape-body m.shape in
    past Inside marks end (item_at m) xs (body-placed Inside marks m.line (item_of m.shape) body)
    ∙ ap (λ (s : Stand). first_misplaced s (marks_past marks m.line m.indent (item_of m.shape)) end xs) (body-stand Inside (item_of m.shape) body)
    ∙ ap (λ (l : List Mark). first_misplaced Inside l end xs) (item-mark marks m)

end-fine : (marks ms : List Mark) (end : ℕ) (excess : Excess) → verdict_in (marks ++ ms) ≡ verdict.Block excess → first_misplaced Inside marks end (to_end ms) ≡ None
end-fine marks [] end excess is =
    ap (λ (v : Verdict). or_later (body_fault 0 v) None) (ap verdict_in (sym (append-nil marks)) ∙ is)
end-fine marks (m ∷ ms) end excess is =
    body-past marks end m (to_end ms)
    ∙ end-fine (marks ++ m ∷ []) ms end excess (ap verdict_in (append_assoc marks (m ∷ []) ms) ∙ is)

-- the body that is open has no bad mark
abbrev IsAlive : Stand → List Mark → Type 0
IsAlive Front marks = Unit {0}
IsAlive Between marks = Unit {0}
IsAlive Headed marks = Unit {0}
IsAlive Inside marks = IsGood (verdict_in marks)

closes-here : (stand : Stand) (marks : List Mark) (end : ℕ) → IsAlive stand marks → Closes stand marks end []
closes-here Front marks end alive = record { more = []; stands = (tt, refl) }
closes-here Between marks end alive = record { more = []; stands = (tt, refl) }
closes-here Headed marks end alive = record { more = a_body ∷ an_end ∷ []; stands = ((tt, (tt, tt)), refl) }
closes-here Inside marks end alive =
    let c = good-ends marks alive in
    record { more = to_end c.more; stands = (end-fit c.more, end-fine marks c.more end c.excess c.is) }

-- where a mark is bad, its line is told whatever follows
dead-told : (marks : List Mark) (end : ℕ) (xs : List ItemAt) (at line : ℕ) → Fit InBody xs → verdict_in marks ≡ verdict.Bad at line →
    first_misplaced Inside marks end xs ≡ Some line
dead-told marks end [] at line fit bad = ap (λ (v : Verdict). Some (cut_fault end v)) bad
dead-told marks end (x ∷ xs) at line fit bad = by_item (λ m. dead-told m end xs at line) (fits-body x.item fit.0)
  where
    by_item : ((m : List Mark) → Fit InBody xs → verdict_in m ≡ verdict.Bad at line → first_misplaced Inside m end xs ≡ Some line) →
        (x.item ≡ item.NodeEnds) ⊎ IsBodyItem x.item → first_misplaced Inside marks end (x ∷ xs) ≡ Some line
    by_item later (inl is) =
        misplaced-step Inside marks end x xs item.NodeEnds is
        ∙ ap (λ (v : Verdict). or_later (body_fault x.line v) (first_misplaced Between [] end xs)) bad
    by_item later (inr body) =
        let has = body-entry true [] 0 x body in
        entry-fine true marks end x has.entry xs has.is
        ∙ later (marks ++ mark_of has.entry ∷ []) (subst (λ (m : Mode). Fit m xs) (body-mode InBody x.item body) fit.1)
        (bad-stays marks (mark_of has.entry ∷ []) at line bad)

dead-open : (marks : List Mark) (end : ℕ) (xs : List ItemAt) (at line : ℕ) → verdict_in marks ≡ verdict.Bad at line → Closes Inside marks end xs → ⊥
dead-open marks end xs at line bad c =
    let e : Some line ≡ None = sym (dead-told marks end (xs ++ c.more) at line c.stands.0 bad) ∙ c.stands.1 in absurd cc

-- a mark of the body that is open is bad
record IsDead (stand : Stand) (marks : List Mark) : Type 0 where
  pub inside : stand ≡ Inside
  pub at : ℕ
  pub line : ℕ
  pub bad : verdict_in marks ≡ verdict.Bad at line

alive-or-dead : (stand : Stand) (marks : List Mark) → IsAlive stand marks ⊎ IsDead stand marks
alive-or-dead Front marks = inl tt
alive-or-dead Between marks = inl tt
alive-or-dead Headed marks = inl tt
alive-or-dead Inside marks = by_verdict (verdict_in marks) refl
  where
    by_verdict : (v : Verdict) → verdict_in marks ≡ v → IsGood (verdict_in marks) ⊎ IsDead Inside marks
    by_verdict (verdict.Block excess) is = inl (λ at line bad. let e = sym is ∙ bad in absurd cc)
    by_verdict (verdict.Bad at line) is = inr (record { inside = refl; at = at; line = line; bad = is })
    by_verdict verdict.Unfinished is = inl (λ at line bad. let e = sym is ∙ bad in absurd cc)

-- The line of what is bad is that of the item.

body-dead : (marks : List Mark) (x : ItemAt) (at line : ℕ) → IsBodyItem x.item → IsGood (verdict_in marks) → verdict_in (marks_behind marks x) ≡ verdict.Bad at line →
    line ≡ x.line
body-dead marks x at line body good bad =
    let has = body-entry true [] 0 x body in
    bad-last marks (mark_of has.entry) at line good (ap verdict_in (sym (entry-mark marks x has.entry has.is)) ∙ bad) ∙ has.is.line

header-out : (stand : Stand) (header : Header) → FitsMode (mode_of stand) (item.Header header) → header_behind stand ≡ Inside → ⊥
header-out Front header fit is = absurd cc
header-out Between header fit is = absurd cc
header-out Headed header fit is = absurd cc
header-out Inside header fit is = absurd fit

tag-out : (stand : Stand) (tag : List ℕ) → FitsMode (mode_of stand) (item.FileTag tag) → stand ≡ Inside → ⊥
tag-out Front tag fit is = absurd cc
tag-out Between tag fit is = absurd cc
tag-out Headed tag fit is = absurd cc
tag-out Inside tag fit is = absurd fit

alive-inside : (stand : Stand) (marks : List Mark) → IsAlive stand marks → stand ≡ Inside → IsGood (verdict_in marks)
alive-inside stand marks alive is = subst (λ (s : Stand). IsAlive s marks) is alive

dead-line : (stand : Stand) (marks : List Mark) (x : ItemAt) (at line : ℕ) → FitsMode (mode_of stand) x.item → IsAlive stand marks →
    stand_behind stand x.item ≡ Inside → verdict_in (marks_behind marks x) ≡ verdict.Bad at line → line ≡ x.line
dead-line stand marks x at line fit alive inside bad = by_item x.item refl
  where
    within : IsBodyItem x.item → line ≡ x.line
    within body = body-dead marks x at line body (alive-inside stand marks alive (sym (body-stand stand x.item body) ∙ inside)) bad

    by_stand : (i : Item) → x.item ≡ i → ((s : Stand) → FitsMode (mode_of s) i → s ≡ Inside → IsBodyItem i) → stand_behind stand i ≡ stand → line ≡ x.line
    by_stand i is body same =
        let here : stand ≡ Inside = sym same ∙ ap (stand_behind stand) (sym is) ∙ inside in
        within (subst IsBodyItem (sym is) (body stand (subst (FitsMode (mode_of stand)) is fit) here))

    by_item : (i : Item) → x.item ≡ i → line ≡ x.line
    by_item (item.FileTag tag) is =
        absurd (tag-out stand tag (subst (FitsMode (mode_of stand)) is fit) (ap (stand_behind stand) (sym is) ∙ inside))
    by_item (item.Header header) is =
        absurd (header-out stand header (subst (FitsMode (mode_of stand)) is fit) (ap (stand_behind stand) (sym is) ∙ inside))
    by_item item.BodyBegins is =
        let e : verdict_in [] ≡ verdict.Bad at line = ap (λ (j : Item). verdict_in (marks_past marks x.line x.indent j)) (sym is) ∙ bad in absurd cc
    by_item item.NodeEnds is =
        let e : Between ≡ Inside = ap (stand_behind stand) (sym is) ∙ inside in absurd cc
    by_item (item.Line said) is = by_stand (item.Line said) is (λ s fits at. tt) refl
    by_item (item.Offer said asked) is = by_stand (item.Offer said asked) is (λ s fits at. tt) refl
    by_item (item.Command own tags) is =
        by_stand (item.Command own tags) is
        (λ s fits at. subst (λ (t : Stand). FitsMode (mode_of t) (item.Command own tags)) at fits) refl
    by_item (item.Game said) is = by_stand (item.Game said) is (λ s fits at. tt) refl

fault-line : (marks : List Mark) (line number : ℕ) → IsGood (verdict_in marks) → body_fault line (verdict_in marks) ≡ Some number → number ≡ line
fault-line marks line number good told = by_verdict (verdict_in marks) refl told
  where
    by_verdict : (v : Verdict) → verdict_in marks ≡ v → body_fault line v ≡ Some number → number ≡ line
    by_verdict (verdict.Block excess) is told = absurd cc
    by_verdict (verdict.Bad at bad) is told = absurd (good at bad is)
    by_verdict verdict.Unfinished is told = cc

tag-line : (stand : Stand) (marks : List Mark) (line number : ℕ) (tag : List ℕ) → misplaced_at stand marks line (item.FileTag tag) ≡ Some number → number ≡ line
tag-line Front marks line number tag told = absurd cc
tag-line Between marks line number tag told = cc
tag-line Headed marks line number tag told = cc
tag-line Inside marks line number tag told = cc

ends-line : (stand : Stand) (marks : List Mark) (line number : ℕ) → IsAlive stand marks → misplaced_at stand marks line item.NodeEnds ≡ Some number → number ≡ line
ends-line Front marks line number alive told = cc
ends-line Between marks line number alive told = cc
ends-line Headed marks line number alive told = cc
ends-line Inside marks line number alive told = fault-line marks line number alive told

placed-line : (stand : Stand) (marks : List Mark) (line number : ℕ) (i : Item) → IsAlive stand marks → misplaced_at stand marks line i ≡ Some number → number ≡ line
placed-line stand marks line number (item.FileTag tag) alive told = tag-line stand marks line number tag told
placed-line stand marks line number item.NodeEnds alive told = ends-line stand marks line number alive told
placed-line stand marks line number (item.Header header) alive told = absurd cc
placed-line stand marks line number item.BodyBegins alive told = absurd cc
placed-line stand marks line number (item.Line said) alive told = absurd cc
placed-line stand marks line number (item.Offer said asked) alive told = absurd cc
placed-line stand marks line number (item.Command own tags) alive told = absurd cc
placed-line stand marks line number (item.Game said) alive told = absurd cc

-- Where a place is told, the items stop there.

data StopsAt (stand : Stand) (marks : List Mark) (items : List ItemAt) (end number : ℕ) : Type 0 where
  on_line : (before behind : List ItemAt) (x : ItemAt) → items ≡ before ++ x ∷ behind → Closes stand marks end before →
      (Closes stand marks end (before ++ x ∷ []) → ⊥) → x.line ≡ number → StopsAt stand marks items end number
  behind_all : Closes stand marks end items → end ≡ number → StopsAt stand marks items end number

stops-past : (stand : Stand) (marks : List Mark) (y : ItemAt) (items : List ItemAt) (end number : ℕ) → misplaced_at stand marks y.line y.item ≡ None →
    FitsMode (mode_of stand) y.item → StopsAt (stand_behind stand y.item) (marks_behind marks y) items end number → StopsAt stand marks (y ∷ items) end number
stops-past stand marks y items end number is fits (on_line before behind x cut closes bad at) =
    on_line (y ∷ before) behind x (ap (λ (l : List ItemAt). y ∷ l) cut) (closes-past stand marks end y before is fits closes)
    (λ c. bad (past-closes stand marks end y (before ++ x ∷ []) is c)) at
stops-past stand marks y items end number is fits (behind_all closes at) = behind_all (closes-past stand marks end y items is fits closes) at

cut-end : (marks : List Mark) (end : ℕ) → IsGood (verdict_in marks) → cut_fault end (verdict_in marks) ≡ end
cut-end marks end good = by_verdict (verdict_in marks) refl
  where
    by_verdict : (v : Verdict) → verdict_in marks ≡ v → cut_fault end v ≡ end
    by_verdict (verdict.Block excess) is = refl
    by_verdict (verdict.Bad at line) is = absurd (good at line is)
    by_verdict verdict.Unfinished is = refl

stops-end : (stand : Stand) (marks : List Mark) (end number : ℕ) → IsAlive stand marks → first_misplaced stand marks end [] ≡ Some number →
    StopsAt stand marks [] end number
stops-end Front marks end number alive told = absurd cc
stops-end Between marks end number alive told = absurd cc
stops-end Headed marks end number alive told = behind_all (closes-here Headed marks end alive) cc
stops-end Inside marks end number alive told =
    let same : cut_fault end (verdict_in marks) ≡ number = cc in
    behind_all (closes-here Inside marks end alive) (sym (cut-end marks end alive) ∙ same)

stops-found : (stand : Stand) (marks : List Mark) (items : List ItemAt) (end number : ℕ) → IsAlive stand marks → Fit (mode_of stand) items →
    first_misplaced stand marks end items ≡ Some number → StopsAt stand marks items end number
stops-found stand marks [] end number alive fit told = stops-end stand marks end number alive told
stops-found stand marks (x ∷ items) end number alive fit told =
    by_place (stops-found (stand_behind stand x.item) (marks_behind marks x) items end number) (misplaced_at stand marks x.line x.item) refl
  where
    by_life : misplaced_at stand marks x.line x.item ≡ None →
        (IsAlive (stand_behind stand x.item) (marks_behind marks x) → StopsAt (stand_behind stand x.item) (marks_behind marks x) items end number) →
        first_misplaced (stand_behind stand x.item) (marks_behind marks x) end items ≡ Some number →
        IsAlive (stand_behind stand x.item) (marks_behind marks x) ⊎ IsDead (stand_behind stand x.item) (marks_behind marks x) →
        StopsAt stand marks (x ∷ items) end number
    by_life is later rest (inl lives) = stops-past stand marks x items end number is fit.0 (later lives)
    by_life is later rest (inr dead) =
        let line = dead-line stand marks x dead.at dead.line fit.0 alive dead.inside dead.bad in
        let told_line : Some dead.line ≡ Some number =
        sym (dead-told (marks_behind marks x) end items dead.at dead.line (subst (λ (s : Stand). Fit (mode_of s) items) dead.inside (fit-past stand x items fit.1)) dead.bad)
        ∙ ap (λ (s : Stand). first_misplaced s (marks_behind marks x) end items) (sym dead.inside) ∙ rest in
        let same : dead.line ≡ number = cc in
        on_line [] items x refl (closes-here stand marks end alive)
        (λ c. dead-open (marks_behind marks x) end [] dead.at dead.line dead.bad
        (subst (λ (s : Stand). Closes s (marks_behind marks x) end []) dead.inside (past-closes stand marks end x [] is c)))
        (sym line ∙ same)

    by_place : (IsAlive (stand_behind stand x.item) (marks_behind marks x) → Fit (mode_of (stand_behind stand x.item)) items →
        first_misplaced (stand_behind stand x.item) (marks_behind marks x) end items ≡ Some number →
        StopsAt (stand_behind stand x.item) (marks_behind marks x) items end number) →
        (o : Option ℕ) → misplaced_at stand marks x.line x.item ≡ o → StopsAt stand marks (x ∷ items) end number
    by_place later (Some line) is =
        let e : Some line ≡ Some number = sym (stopped stand marks end x items line is) ∙ told in
        let same : line ≡ number = cc in
        on_line [] items x refl (closes-here stand marks end alive) (stopped-open stand marks end x [] line is)
        (sym (placed-line stand marks x.line line x.item alive is) ∙ same)
    by_place later None is =
        let rest = sym (past stand marks end x items is) ∙ told in
        by_life is (λ lives. later lives (fit-past stand x items fit.1) rest) rest (alive-or-dead (stand_behind stand x.item) (marks_behind marks x))

-- Items that may be closed are those with which a file begins.

file-begins : (end : ℕ) (items : List ItemAt) → Closes Front [] end items → BeginFile items
file-begins end items c =
    let found = file-found true [] end [] (items ++ c.more) c.stands.0 c.stands.1 in
    record {
      more = c.more;
      file = record { name = []; tags = tags_of (items ++ c.more); nodes = nodes_from true no_draft (items ++ c.more) };
      is = found.0;
      blocks = found.1;
    }

-- the items of a file are such that lines of their modes may be
fits : (mode : Mode) (x : ItemAt) (xs : List ItemAt) (i : Item) → x.item ≡ i → FitsMode mode i → Fit (next_mode mode i) xs → Fit mode (x ∷ xs)
fits mode x xs i is fit rest = (subst (FitsMode mode) (sym is) fit, subst (λ (j : Item). Fit (next_mode mode j) xs) (sym is) rest)

headers-fit : {xs : List ItemAt} {hs : List Header} (begins : ItemAt) (rest : List ItemAt) → AreHeaders xs hs → begins.item ≡ item.BodyBegins → Fit InBody rest →
    Fit InHeaders (xs ++ (begins ∷ rest))
headers-fit begins rest no_header begun fit = fits InHeaders begins rest item.BodyBegins begun tt fit
headers-fit begins rest (next_header {x = x} {xs = xs} {h = h} is more) begun fit =
    fits InHeaders x (xs ++ (begins ∷ rest)) (item.Header h) is tt (headers-fit begins rest more begun fit)

body-fit : (xs : List ItemAt) (b : List Entry) (rest : List ItemAt) → AreEntries xs b → Fit InBody rest → Fit InBody (xs ++ rest)
body-fit [] [] rest are fit = fit
body-fit [] (e ∷ b) rest are fit = absurd are
body-fit (x ∷ xs) [] rest are fit = absurd are
body-fit (x ∷ xs) (e ∷ b) rest are fit =
    let body = is_body_item x e are.0 in (
      body-fits x.item body,
      subst (λ (m : Mode). Fit m (xs ++ rest)) (sym (body-mode InBody x.item body)) (body-fit xs b rest are.1 fit),
    )

node-fits : {items : List ItemAt} {node : NodeLines} (rest : List ItemAt) → IsNode (HasGiven true) items node → Fit InHeaders rest → Fit InHeaders (items ++ rest)
node-fits {node = node} rest is fit =
    let body = body-fit is.inner node.body (is.ends ∷ rest) is.body (fits InBody is.ends rest item.NodeEnds is.ended.0 tt fit) in
    let whole = headers-fit is.begins (is.inner ++ (is.ends ∷ rest)) is.headed is.begun.0 body in
    subst (Fit InHeaders) (sym (ap (λ (l : List ItemAt). l ++ rest) is.cut ∙ node-cut is.headers is.inner rest is.begins is.ends)) whole

nodes-fit : {items : List ItemAt} {nodes : List NodeLines} → AreNodes (HasGiven true) items nodes → Fit InHeaders items
nodes-fit no_node = tt
nodes-fit (first_node {rest = rest} is more) = node-fits rest is (nodes-fit more)

tags-fit : {xs : List ItemAt} {ts : List (List ℕ)} (rest : List ItemAt) → AreTags xs ts → Fit InHeaders rest → Fit InHeaders (xs ++ rest)
tags-fit rest no_tag fit = fit
tags-fit rest (next_tag {x = x} {xs = xs} {t = t} is more) fit = fits InHeaders x (xs ++ rest) (item.FileTag t) is tt (tags-fit rest more fit)

file-fit : {items : List ItemAt} {file : FileLines} → IsFile (HasGiven true) items file → Fit InHeaders items
file-fit is = subst (Fit InHeaders) (sym is.cut) (tags-fit is.rest is.tagged (nodes-fit is.are_nodes))

begin-closes : (end : ℕ) (items : List ItemAt) → BeginFile items → Closes Front [] end items
begin-closes end items b = record { more = b.more; stands = (file-fit b.is, file-fine true end b.is b.blocks) }

-- Only one place.

begin-front : (a b : List ItemAt) → BeginFile (a ++ b) → BeginFile a
begin-front a b begin = record {
  more = b ++ begin.more;
  file = begin.file;
  is = subst (λ (l : List ItemAt). IsFile (HasGiven true) l begin.file) (append_assoc a b begin.more) begin.is;
  blocks = begin.blocks;
}

-- of two cuts of a list one is in front of the other
data Cuts {A : Type 0} (a b : List A) (x y : A) : Type 0 where
  same_cut : a ≡ b → x ≡ y → Cuts a b x y
  first_cut : (m : List A) → b ≡ (a ++ x ∷ []) ++ m → Cuts a b x y
  second_cut : (m : List A) → a ≡ (b ++ y ∷ []) ++ m → Cuts a b x y

two-cuts : {A : Type 0} (a : List A) (x : A) (r : List A) (b : List A) (y : A) (s : List A) → a ++ x ∷ r ≡ b ++ y ∷ s → Cuts a b x y
two-cuts [] x r [] y s e = same_cut refl cc
two-cuts [] x r (z ∷ b) y s e = first_cut b cc
two-cuts (z ∷ a) x r [] y s e = second_cut a cc
two-cuts {A = A} (z ∷ a) x r (w ∷ b) y s e = more (two-cuts a x r b y s cc) cc
  where
    more : Cuts a b x y → z ≡ w → Cuts (z ∷ a) (w ∷ b) x y
    more (same_cut p q) h = same_cut (ap (λ (n : A). n ∷ a) h ∙ ap (λ (l : List A). w ∷ l) p) q
    more (first_cut m p) h = first_cut m (ap (λ (n : A). n ∷ b) (sym h) ∙ ap (λ (l : List A). z ∷ l) p)
    more (second_cut m p) h = second_cut m (ap (λ (n : A). n ∷ a) h ∙ ap (λ (l : List A). w ∷ l) p)

line-cut : (before behind : List ItemAt) (x : ItemAt) → before ++ x ∷ behind ≡ (before ++ x ∷ []) ++ behind
line-cut before behind x = sym (append_assoc before (x ∷ []) behind)

one-place : (items : List ItemAt) (end n m : ℕ) → IsMisplacedAt items end n → IsMisplacedAt items end m → n ≡ m
one-place items end n m (at_line b r x cut begin bad at) (at_line c s y cut2 begin2 bad2 at2) =
    of (two-cuts b x r c y s (sym cut ∙ cut2))
  where
    of : Cuts b c x y → n ≡ m
    of (same_cut p q) = sym at ∙ ap (λ (z : ItemAt). z.line) q ∙ at2
    of (first_cut l p) = absurd (bad (begin-front (b ++ x ∷ []) l (subst BeginFile p begin2)))
    of (second_cut l p) = absurd (bad2 (begin-front (c ++ y ∷ []) l (subst BeginFile p begin)))
one-place items end n m (at_line b r x cut begin bad at) (at_end all none at2) =
    absurd (bad (begin-front (b ++ x ∷ []) r (subst BeginFile (cut ∙ line-cut b r x) all)))
one-place items end n m (at_end all none at) (at_line c s y cut2 begin2 bad2 at2) =
    absurd (bad2 (begin-front (c ++ y ∷ []) s (subst BeginFile (cut2 ∙ line-cut c s y) all)))
one-place items end n m (at_end all none at) (at_end all2 none2 at2) = sym at ∙ at2

of-begins : (items : List ItemAt) → AreOfFile items → BeginFile items
of-begins items are = record {
  more = [];
  file = are.file;
  is = subst (λ (l : List ItemAt). IsFile (HasGiven true) l are.file) (sym (append-nil items)) are.is;
  blocks = are.blocks;
}

pub misplaced-found : (items : List ItemAt) (end number : ℕ) → Fit InHeaders items → first_misplaced Front [] end items ≡ Some number →
    IsMisplacedAt items end number
misplaced-found items end number fit told = of (stops-found Front [] items end number tt fit told)
  where
    of : StopsAt Front [] items end number → IsMisplacedAt items end number
    of (on_line before behind x cut closes bad at) =
        at_line before behind x cut (file-begins end before closes) (λ b. bad (begin-closes end (before ++ x ∷ []) b)) at
    of (behind_all closes at) =
        at_end (file-begins end items closes)
        (λ are. let e : None ≡ Some number = sym (file-fine true end are.is are.blocks) ∙ told in absurd cc) at

-- the items of a file are misplaced nowhere
placed-nowhere : (items : List ItemAt) (end number : ℕ) → AreOfFile items → IsMisplacedAt items end number → ⊥
placed-nowhere items end number are (at_line before behind x cut begin bad at) =
    bad (begin-front (before ++ x ∷ []) behind (subst BeginFile (cut ∙ line-cut before behind x) (of-begins items are)))
placed-nowhere items end number are (at_end begin none at) = none are

pub misplaced-told : (items : List ItemAt) (end number : ℕ) → Fit InHeaders items → IsMisplacedAt items end number →
    first_misplaced Front [] end items ≡ Some number
misplaced-told items end number fit at = by_place (first_misplaced Front [] end items) refl
  where
    by_place : (o : Option ℕ) → first_misplaced Front [] end items ≡ o → first_misplaced Front [] end items ≡ Some number
    by_place (Some other) is = is ∙ ap Some (one-place items end other number (misplaced-found items end other fit is) at)
    by_place None is =
        let found = file-found true [] end [] items fit is in
        let are : AreOfFile items = record { file = record { name = []; tags = tags_of items; nodes = nodes_from true no_draft items }; is = found.0; blocks = found.1 } in
        absurd (placed-nowhere items end number are at)

module _ (items_found : ItemsAreFound) where
  pub misplaced_is_noted : MisplacedIsNoted
  misplaced_is_noted source number fine =
      let lines = (lines_of source.bytes).lines in
      let end = (lines_of source.bytes).end in (
        λ told.
            let has = fine-items items_found InHeaders lines fine in
            record { items = items_in source; has = has; at = misplaced-found (items_in source) end number (items-fit InHeaders lines (items_in source) has) told },
        λ is.
            ap (first_misplaced Front [] end) (items-have items_found InHeaders lines is.items is.has).0
            ∙ misplaced-told is.items end number (items-fit InHeaders lines is.items is.has) is.at,
      )
