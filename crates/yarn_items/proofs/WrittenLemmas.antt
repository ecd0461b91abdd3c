-- A text is written as its first piece and the text behind it are.
use Rattle.std.proofs.Common.{◌≡◌, ℕ, ◌+◌, List, [], ◌∷◌, ◌++◌, Bool, true, false, ◌||◌, Option, Some, None, chars, refl, sym, ap, ◌∙◌, append_assoc, append-nil}
use Rattle.std.specs.List.{list_any}
use Rattle.std.proofs.lemmas.List.Folds.{list_any-append}
use Rattle.yarn_expr.specs.declared.token.Token.{Token}
use Rattle.yarn_expr.specs.declared.tree.Expr.{Expr}
use Rattle.yarn_expr.specs.Literal.{is_fraction, is_large}
use Rattle.yarn_commands.specs.declared.read.Part.{Part}
use Rattle.yarn_commands.specs.Reading.{expression}
use Rattle.yarn_items.specs.declared.item.Literals.{Literals}
use Rattle.yarn_items.specs.declared.first.Kind.{Kind}
use Rattle.yarn_items.specs.declared.first.Kind.TheVariants.{Line, Game}
use Rattle.yarn_items.specs.Text.{Piece, Char, Pair, Hole, pair_text, hole_text}
use Rattle.yarn_items.specs.Item.{literals_of}
use Rattle.yarn_items.specs.Scan.{Begins, Ends, Broken, front_of, Scan, with_piece, scan}
use Rattle.yarn_items.specs.Holes.{Held, with_part, held_in}
use Rattle.yarn_items.specs.Written.{Written, text_by, written_with, written_of, written, no_literals, both_literals, joined, with_hole}
use Rattle.yarn_items.proofs.ScanLemmas.{scan-begins, scan-ends, scan-breaks}

-- Parts of a text.

or-nothing : (a : Bool) → (a || false) ≡ a
or-nothing true = refl
or-nothing false = refl

or-assoc : (a b c : Bool) → (a || (b || c)) ≡ ((a || b) || c)
or-assoc true b c = refl
or-assoc false b c = refl

abbrev literals : Bool → Bool → Literals
literals f l = record { fraction = f; too_large = l }

pub both-nothing : (a : Literals) → both_literals a no_literals ≡ a
both-nothing a = rw (or-nothing a.fraction, or-nothing a.too_large) refl

both-assoc : (a b c : Literals) → both_literals a (both_literals b c) ≡ both_literals (both_literals a b) c
both-assoc a b c = ap (λ f. literals f (a.too_large || (b.too_large || c.too_large))) (or-assoc a.fraction b.fraction c.fraction)
    ∙ ap (literals ((a.fraction || b.fraction) || c.fraction)) (or-assoc a.too_large b.too_large c.too_large)

literals-append : (ts us : List Token) → literals_of (ts ++ us) ≡ both_literals (literals_of ts) (literals_of us)
literals-append ts us = ap (λ f. literals f (list_any is_large (ts ++ us))) (list_any-append is_fraction ts us)
    ∙ ap (literals (list_any is_fraction ts || list_any is_fraction us)) (list_any-append is_large ts us)

abbrev some_written : List ℕ → List Expr → Literals → List ℕ → Option Written
some_written text holes literals rest = Some (record { text = text; holes = holes; literals = literals; rest = rest })

pub joined-nothing : (o : Option Written) → joined [] [] no_literals o ≡ o
joined-nothing None = refl
joined-nothing (Some w) = refl

pub joined-joined : (a b : List ℕ) (h g : List Expr) (l m : Literals) (o : Option Written) →
    joined a h l (joined b g m o) ≡ joined (a ++ b) (h ++ g) (both_literals l m) o
joined-joined a b h g l m None = refl
joined-joined a b h g l m (Some w) =
    ap (λ (t : List ℕ). some_written t (h ++ (g ++ w.holes)) (both_literals l (both_literals m w.literals)) w.rest) (sym (append_assoc a b w.text))
    ∙ ap (λ (x : List Expr). some_written ((a ++ b) ++ w.text) x (both_literals l (both_literals m w.literals)) w.rest) (sym (append_assoc h g w.holes))
    ∙ ap (λ (x : Literals). some_written ((a ++ b) ++ w.text) ((h ++ g) ++ w.holes) x w.rest) (both-assoc l m w.literals)

pub joined-end : (a : List ℕ) (h : List Expr) (l : Literals) (rest : List ℕ) →
    joined a h l (some_written [] [] no_literals rest) ≡ some_written a h l rest
joined-end a h l rest =
    ap (λ (t : List ℕ). some_written t (h ++ []) (both_literals l no_literals) rest) (append-nil a)
    ∙ ap (λ (x : List Expr). some_written a x (both_literals l no_literals) rest) (append-nil h)
    ∙ ap (λ (x : Literals). some_written a h x rest) (both-nothing l)

-- more of a text, without a substitution
pub joined-text : (a b : List ℕ) (h : List Expr) (l : Literals) (o : Option Written) → joined a h l (joined b [] no_literals o) ≡ joined (a ++ b) h l o
joined-text a b h l o =
    joined-joined a b h [] l no_literals o ∙ ap (λ (x : List Expr). joined (a ++ b) x (both_literals l no_literals) o) (append-nil h)
    ∙ ap (λ (x : Literals). joined (a ++ b) h x o) (both-nothing l)

-- The first piece.

char-text : (kind : Kind) (k c : ℕ) (pieces : List Piece) → text_by kind k (Char c ∷ pieces) ≡ c ∷ text_by kind k pieces
char-text Line k c pieces = refl
char-text Game k c pieces = refl

char-onto : (kind : Kind) (k c : ℕ) (o : Option Scan) → written_of kind k (with_piece (Char c) o) ≡ joined (c ∷ []) [] no_literals (written_of kind k o)
char-onto kind k c None = refl
char-onto kind k c (Some s) = of (held_in s.pieces)
  where
    of : (h : Option Held) → written_with kind k (record { pieces = Char c ∷ s.pieces; rest = s.rest }) h ≡ joined (c ∷ []) [] no_literals (written_with kind k s h)
    of None = refl
    of (Some h) = ap (λ (t : List ℕ). some_written t h.holes (literals_of h.tokens) s.rest) (char-text kind k c s.pieces)

-- a pair as it is written
abbrev pub pair_by : Kind → ℕ → List ℕ
pair_by Line c = pair_text c
pair_by Game c = 92 ∷ c ∷ []

pair-of_text : (kind : Kind) (k c : ℕ) (pieces : List Piece) → text_by kind k (Pair c ∷ pieces) ≡ pair_by kind c ++ text_by kind k pieces
pair-of_text Line k c pieces = refl
pair-of_text Game k c pieces = refl

pair-onto : (kind : Kind) (k c : ℕ) (o : Option Scan) → written_of kind k (with_piece (Pair c) o) ≡ joined (pair_by kind c) [] no_literals (written_of kind k o)
pair-onto kind k c None = refl
pair-onto kind k c (Some s) = of (held_in s.pieces)
  where
    of : (h : Option Held) → written_with kind k (record { pieces = Pair c ∷ s.pieces; rest = s.rest }) h ≡ joined (pair_by kind c) [] no_literals (written_with kind k s h)
    of None = refl
    of (Some h) = ap (λ (t : List ℕ). some_written t h.holes (literals_of h.tokens) s.rest) (pair-of_text kind k c s.pieces)

hole-of_text : (kind : Kind) (k : ℕ) (inside : List ℕ) (pieces : List Piece) → text_by kind k (Hole inside ∷ pieces) ≡ hole_text k ++ text_by kind (k + 1) pieces
hole-of_text Line k inside pieces = refl
hole-of_text Game k inside pieces = refl

hole-none : (k : ℕ) (e : Option Part) → with_hole k e None ≡ None
hole-none k None = refl
hole-none k (Some part) = refl

hole-onto : (kind : Kind) (k : ℕ) (inside : List ℕ) (o : Option Scan) →
    written_of kind k (with_piece (Hole inside) o) ≡ with_hole k (expression (chars inside)) (written_of kind (k + 1) o)
hole-onto kind k inside None = sym (hole-none k (expression (chars inside)))
hole-onto kind k inside (Some s) = of (expression (chars inside)) (held_in s.pieces)
  where
    of : (e : Option Part) (h : Option Held) →
        written_with kind k (record { pieces = Hole inside ∷ s.pieces; rest = s.rest }) (with_part e h) ≡ with_hole k e (written_with kind (k + 1) s h)
    of None h = refl
    of (Some part) None = refl
    of (Some part) (Some h) =
        ap (λ (t : List ℕ). some_written t (part.expr ∷ h.holes) (literals_of (part.tokens ++ h.tokens)) s.rest) (hole-of_text kind k inside s.pieces)
        ∙ ap (λ (x : Literals). some_written (hole_text k ++ text_by kind (k + 1) s.pieces) (part.expr ∷ h.holes) x s.rest) (literals-append part.tokens h.tokens)

pub written-char : (kind : Kind) (bytes more : List ℕ) (c k : ℕ) → front_of kind bytes ≡ Begins (Char c) more →
    written kind k bytes ≡ joined (c ∷ []) [] no_literals (written kind k more)
unfolding written
written-char kind bytes more c k is = ap (written_of kind k) (scan-begins kind bytes more (Char c) is) ∙ char-onto kind k c (scan kind more)

pub written-pair : (kind : Kind) (bytes more : List ℕ) (c k : ℕ) → front_of kind bytes ≡ Begins (Pair c) more →
    written kind k bytes ≡ joined (pair_by kind c) [] no_literals (written kind k more)
unfolding written
written-pair kind bytes more c k is = ap (written_of kind k) (scan-begins kind bytes more (Pair c) is) ∙ pair-onto kind k c (scan kind more)

pub written-hole : (kind : Kind) (bytes more inside : List ℕ) (k : ℕ) → front_of kind bytes ≡ Begins (Hole inside) more →
    written kind k bytes ≡ with_hole k (expression (chars inside)) (written kind (k + 1) more)
unfolding written
written-hole kind bytes more inside k is = ap (written_of kind k) (scan-begins kind bytes more (Hole inside) is) ∙ hole-onto kind k inside (scan kind more)

pub written-ends : (kind : Kind) (bytes : List ℕ) (k : ℕ) → front_of kind bytes ≡ Ends → written kind k bytes ≡ some_written [] [] no_literals bytes
unfolding written
written-ends kind bytes k is = ap (written_of kind k) (scan-ends kind bytes is) ∙ of kind
  where
    of : (kind : Kind) → written_of kind k (Some (record { pieces = []; rest = bytes })) ≡ some_written [] [] no_literals bytes
    of Line = refl
    of Game = refl

pub written-breaks : (kind : Kind) (bytes : List ℕ) (k : ℕ) → front_of kind bytes ≡ Broken → written kind k bytes ≡ None
unfolding written
written-breaks kind bytes k is = ap (written_of kind k) (scan-breaks kind bytes is)
