-- From the exact answer to the public clauses.
use Rattle.std.proofs.Common.{◌≡◌, ℕ, List, Bool, true, false, Option, Some, None, refl, subst, sym, ap, ◌∙◌}
use Rattle.std.specs.Prelude.{Result, Ok, Err, IfOk}
use Rattle.std.specs.List.{list_any, slice_range}
use Rattle.std.specs.Str.{chars}
use Rattle.yarn_expr.specs.declared.token.Token.{Token}
use Rattle.yarn_expr.specs.declared.tree.Expr.{Expr}
use Rattle.yarn_expr.specs.declared.fault.ExprFault.{ExprFault}
use Rattle.yarn_expr.specs.declared.fault.ExprFault.TheVariants as fault
use Rattle.yarn_expr.specs.Plain.{Tree, expr_of}
use Rattle.yarn_expr.specs.Literal.{is_fraction, is_large}
use Rattle.yarn_expr.specs.Reading.{read_all}
use Rattle.yarn_expr.specs.Tokens.{tokens_of}
use Rattle.yarn_expr.specs.Gives.{answer_for, answer, answer_at, piece_answer}
use Rattle.yarn_expr.specs.Piece.{Answers, answer_to, piece_of, HasTree, IsKept, HasFraction, HasLarge}
use Rattle.yarn_expr.proofs.Only.{only}
use Rattle.yarn_expr.proofs.Sound.{read_all-sound}

-- what was answered of the bytes between two places
pub answered : (r : Result Expr ExprFault) (bytes view text : List ℕ) (from to : ℕ) → Answers r (piece_answer (chars bytes)) → bytes ≡ slice_range view from to → view ≡ text →
    Answers r (piece_answer (piece_of text from to))
answered r bytes view text from to h cut same =
    let P : List ℕ → Type 0 = λ l. Answers r (piece_answer (chars l)) in
    subst P (cut ∙ ap (λ l. slice_range l from to) same) h

-- which answer tells what of the reading and of the literals
abbrev Told : List Token → Option Expr → Result Expr ExprFault → Type 0
Told tokens o (Ok e) = (o ≡ Some e) × (list_any is_fraction tokens ≡ false) × (list_any is_large tokens ≡ false)
Told tokens o (Err fault.NotExpr) = o ≡ None
Told tokens o (Err fault.Fraction) = (e : Expr) × (o ≡ Some e) × (list_any is_fraction tokens ≡ true)
Told tokens o (Err fault.NumberTooLarge) = (e : Expr) × (o ≡ Some e) × (list_any is_fraction tokens ≡ false) × (list_any is_large tokens ≡ true)
Told tokens o (Err fault.Memory) = Unit {0}

told : (tokens : List Token) (o : Option Expr) → Told tokens o (answer_for o tokens)
told tokens None = refl
told tokens (Some e) = by_fraction (list_any is_fraction tokens) refl
  where
    by_large : list_any is_fraction tokens ≡ false → (b : Bool) → list_any is_large tokens ≡ b → Told tokens (Some e) (answer_for (Some e) tokens)
    by_large plain true is = rw (plain, is) (e, refl, plain, is)
    by_large plain false is = rw (plain, is) (refl, plain, is)

    by_fraction : (b : Bool) → list_any is_fraction tokens ≡ b → Told tokens (Some e) (answer_for (Some e) tokens)
    by_fraction true is = rw is (e, refl, is)
    by_fraction false is = by_large is (list_any is_large tokens) refl

-- the same of a piece with its tokens
tell : (piece : List ℕ) (tokens : List Token) (r : Result Expr ExprFault) → tokens_of piece ≡ Some tokens → piece_answer piece ≡ r → Told tokens (read_all tokens) r
tell piece tokens r is h =
    let same : answer tokens ≡ r = sym (ap answer_at is) ∙ h in
    let P : Result Expr ExprFault → Type 0 = λ s. Told tokens (read_all tokens) s in
    subst P same (told tokens (read_all tokens))

pub found_law : (piece : List ℕ) (r : Result Expr ExprFault) → Answers r (piece_answer piece) → IfOk r (IsKept piece)
found_law piece (Err e) h = tt
found_law piece (Ok e) h = at (tokens_of piece) refl h
  where
    at : (o : Option (List Token)) → tokens_of piece ≡ o → answer_at o ≡ Ok e → IsKept piece e
    at None is h' = cc
    at (Some tokens) is h' =
        let t = tell piece tokens (Ok e) is h in
        let x = read_all-sound tokens e t.0 in
        record { tokens = tokens; tree = x.tree; has = record { lexed = is; expression = x.expression }; is = x.is; no_fraction = t.1; no_large = t.2 }

pub only_law : (piece : List ℕ) (r : Result Expr ExprFault) → Answers r (piece_answer piece) → (tokens : List Token) (tree : Tree) → HasTree piece tokens tree →
    Answers r (answer_to (expr_of tree) tokens)
only_law piece r h tokens tree x =
    let same : piece_answer piece ≡ answer_for (Some (expr_of tree)) tokens = ap answer_at x.lexed ∙ ap (λ o. answer_for o tokens) (only tokens tree x.expression) in
    let P : Result Expr ExprFault → Type 0 = λ s. Answers r s in
    subst P same h

-- a refusal that isn't for want of memory is the answer
pub none_law : (piece : List ℕ) (r : Result Expr ExprFault) → Answers r (piece_answer piece) → r ≡ Err fault.NotExpr → (tokens : List Token) (tree : Tree) → HasTree piece tokens tree → ⊥
none_law piece r h refused tokens tree x =
    let P : Result Expr ExprFault → Type 0 = λ s. Answers s (piece_answer piece) in
    let none = tell piece tokens (Err fault.NotExpr) x.lexed (subst P refused h) in
    let some = only tokens tree x.expression in
    cc

pub fraction_law : (piece : List ℕ) (r : Result Expr ExprFault) → Answers r (piece_answer piece) → r ≡ Err fault.Fraction → HasFraction piece
fraction_law piece r h refused = let P : Result Expr ExprFault → Type 0 = λ s. Answers s (piece_answer piece) in at (tokens_of piece) refl (subst P refused h)
  where
    at : (o : Option (List Token)) → tokens_of piece ≡ o → answer_at o ≡ Err fault.Fraction → HasFraction piece
    at None is h' = cc
    at (Some tokens) is h' =
        let t = tell piece tokens (Err fault.Fraction) is (ap answer_at is ∙ h') in
        let x = read_all-sound tokens t.0 t.1 in
        record { tokens = tokens; tree = x.tree; has = record { lexed = is; expression = x.expression }; some = t.2 }

pub large_law : (piece : List ℕ) (r : Result Expr ExprFault) → Answers r (piece_answer piece) → r ≡ Err fault.NumberTooLarge → HasLarge piece
large_law piece r h refused = let P : Result Expr ExprFault → Type 0 = λ s. Answers s (piece_answer piece) in at (tokens_of piece) refl (subst P refused h)
  where
    at : (o : Option (List Token)) → tokens_of piece ≡ o → answer_at o ≡ Err fault.NumberTooLarge → HasLarge piece
    at None is h' = cc
    at (Some tokens) is h' =
        let t = tell piece tokens (Err fault.NumberTooLarge) is (ap answer_at is ∙ h') in
        let x = read_all-sound tokens t.0 t.1 in
        record { tokens = tokens; tree = x.tree; has = record { lexed = is; expression = x.expression }; no_fraction = t.2; some = t.3 }
