-- What is found of a line is what the line is.
use Rattle.std.proofs.Common.{◌≡◌, ℕ, List, Bool, true, false, Option, Some, None, refl, sym, ap, ◌∙◌}
use Rattle.std.specs.List.{list_any}
use Rattle.yarn_expr.specs.declared.token.Token.{Token}
use Rattle.yarn_items.specs.declared.item.Mode.{Mode}
use Rattle.yarn_items.specs.declared.item.Mode.TheVariants.{InHeaders, InBody}
use Rattle.yarn_items.specs.declared.item.Item.{Item}
use Rattle.yarn_items.specs.declared.item.Literals.{Literals}
use Rattle.yarn_items.specs.declared.item.Found.{Found}
use Rattle.yarn_items.specs.Item.{is_cr, IsForm, IsItem, IsFound}
use Rattle.yarn_items.specs.Form.{form_of, found_of}
use Rattle.yarn_items.specs.Laws.{ItemsAreFound, OneItem, NothingIsLeft}
use Rattle.yarn_items.proofs.FormLemmas.{found_with, HasForm}
use Rattle.yarn_items.proofs.HeadingLemmas.{heading-found, heading-only}
use Rattle.yarn_items.proofs.BodyLemmas.{body-found, body-only}
use Rattle.yarn_items.proofs.TokenLemmas.{tokens_in, tokens-are}

form-found : (mode : Mode) (text : List ℕ) (tokens : List Token) (it : Item) → IsForm mode text tokens it → form_of mode text ≡ Some (found_with tokens it)
form-found InHeaders text tokens it is = heading-found text tokens it is
form-found InBody text tokens it is = body-found text tokens it is

form-only : (mode : Mode) (text : List ℕ) (f : Found) → form_of mode text ≡ Some f → HasForm mode text f
form-only InHeaders text f is = heading-only text f is
form-only InBody text f is = body-only text f is

-- an item is found
pub item-found : (mode : Mode) (text : List ℕ) (tokens : List Token) (it : Item) → IsItem mode text tokens it → found_of mode text ≡ Some (found_with tokens it)
unfolding found_of
item-found mode text tokens it is = rw is.0 (form-found mode text tokens it is.1)

found-item : (mode : Mode) (text : List ℕ) (f : Found) → IsFound mode text f → found_of mode text ≡ Some f
found-item mode text f is =
    item-found mode text is.tokens f.item is.is ∙ ap (λ (l : Literals). Some (record { item = f.item; literals = l })) (sym is.literals)

-- what is found is an item
pub item-only : (mode : Mode) (text : List ℕ) (f : Found) → found_of mode text ≡ Some f → IsFound mode text f
unfolding found_of
item-only mode text f is = by_cr (list_any is_cr text) refl
  where
    by_cr : (t : Bool) → list_any is_cr text ≡ t → IsFound mode text f
    by_cr true t = let h : None ≡ Some f = rw t at is in absurd cc
    by_cr false t =
        let form = form-only mode text f (rw t at is) in
        record { tokens = form.tokens; is = (t, form.is); literals = form.literals }

pub items-are-found : ItemsAreFound
items-are-found mode text f = (item-only mode text f, found-item mode text f)

-- nothing is found where the text is no item

pub nothing-only : (mode : Mode) (text : List ℕ) → found_of mode text ≡ None → (tokens : List Token) (it : Item) → IsItem mode text tokens it → ⊥
nothing-only mode text none tokens it is = let h : None ≡ Some (found_with tokens it) = sym none ∙ item-found mode text tokens it is in absurd cc

pub nothing-found : (mode : Mode) (text : List ℕ) → ((tokens : List Token) (it : Item) → IsItem mode text tokens it → ⊥) → found_of mode text ≡ None
nothing-found mode text left = by_found (found_of mode text) refl
  where
    by_found : (o : Option Found) → found_of mode text ≡ o → found_of mode text ≡ None
    by_found None is = is
    by_found (Some f) is = let one = item-only mode text f is in absurd (left one.tokens f.item one.is)

pub nothing-is-left : NothingIsLeft
nothing-is-left mode text = (nothing-only mode text, nothing-found mode text)

-- a line is one item

one-of : (mode : Mode) (text : List ℕ) (ts us : List Token) (a b : Item) → IsItem mode text ts a → IsItem mode text us b → a ≡ b
one-of mode text ts us a b x y =
    let told : Some (found_with ts a) ≡ Some (found_with us b) = sym (item-found mode text ts a x) ∙ item-found mode text us b y in
    let same : found_with ts a ≡ found_with us b = cc in
    ap (λ (f : Found). f.item) same

pub one-item : OneItem
one-item mode text ts us a b x y =
    let same = one-of mode text ts us a b x y in
    (same, sym (tokens-are mode text ts a x.1) ∙ ap (tokens_in mode text) same ∙ tokens-are mode text us b y.1)
