-- What one more line or option adds to the lines without ids, and to the ids.
use Rattle.std.proofs.Common.{◌≡◌, ℕ, ◌+◌, ◌<◌, List, [], ◌∷◌, ◌++◌, length, take, get_or, Bool, true, false, ◌&&◌, ◌||◌, nat_eq, is_none, Option, Some, None, bytes_eq, refl, sym, ap, ◌∙◌}
use mathlib.Core.Path.{fun_ext}
use Rattle.std.proofs.lemmas.List.{take_more}
use Rattle.std.proofs.lemmas.List.Folds.{list_any-append}
use Rattle.yarn_tag.specs.declared.spoken.Spoken.{Spoken}
use Rattle.yarn_tag.specs.Sets.{and_id, and_line}
use Rattle.yarn_tag.specs.Tagged.{lacks, has_id, is_own}

-- one more is taken
pub took : (said : List Spoken) (i : ℕ) (s : Spoken) → i < length said → s ≡ get_or said i s → take (i + 1) said ≡ take i said ++ s ∷ []
took said i s less is = take_more said i s less ∙ ap (λ (t : Spoken). take i said ++ t ∷ []) (sym is)

or-behind : (a b n : Bool) → n ≡ true → (a || b) ≡ (b || ((a && n) || false))
or-behind true true n is = refl
or-behind true false n is = ap (λ (m : Bool). m || false) (sym is)
or-behind false true n is = refl
or-behind false false n is = refl

or-none : (a b n : Bool) → n ≡ false → b ≡ (b || ((a && n) || false))
or-none a true n is = refl
or-none true false n is = ap (λ (m : Bool). m || false) (sym is)
or-none false false n is = refl

or-swap : (a b : Bool) → (a || b) ≡ (b || (a || false))
or-swap true true = refl
or-swap true false = refl
or-swap false true = refl
or-swap false false = refl

or-nothing : (b : Bool) → b ≡ (b || (false || false))
or-nothing true = refl
or-nothing false = refl

pub lacks-with : (front : List Spoken) (s : Spoken) → is_none s.id ≡ true → and_line s.line (lacks front) ≡ lacks (front ++ s ∷ [])
lacks-with front s none = fun_ext (λ (line : ℕ).
    or-behind (nat_eq s.line line) (lacks front line) (is_none s.id) none
    ∙ sym (list_any-append (λ (t : Spoken). nat_eq t.line line && is_none t.id) front (s ∷ [])))

pub lacks-without : (front : List Spoken) (s : Spoken) → is_none s.id ≡ false → lacks front ≡ lacks (front ++ s ∷ [])
lacks-without front s some = fun_ext (λ (line : ℕ).
    or-none (nat_eq s.line line) (lacks front line) (is_none s.id) some
    ∙ sym (list_any-append (λ (t : Spoken). nat_eq t.line line && is_none t.id) front (s ∷ [])))

pub ids-with : (front : List Spoken) (s : Spoken) (id : List ℕ) → s.id ≡ Some id → and_id id (has_id front) ≡ has_id (front ++ s ∷ [])
ids-with front s id some = fun_ext (λ (other : List ℕ).
    or-swap (bytes_eq id other) (has_id front other)
    ∙ ap (λ (o : Option (List ℕ)). has_id front other || (is_own other o || false)) (sym some)
    ∙ sym (list_any-append (λ (t : Spoken). is_own other t.id) front (s ∷ [])))

pub ids-without : (front : List Spoken) (s : Spoken) → s.id ≡ None → has_id front ≡ has_id (front ++ s ∷ [])
ids-without front s none = fun_ext (λ (other : List ℕ).
    or-nothing (has_id front other)
    ∙ ap (λ (o : Option (List ℕ)). has_id front other || (is_own other o || false)) (sym none)
    ∙ sym (list_any-append (λ (t : Spoken). is_own other t.id) front (s ∷ [])))
