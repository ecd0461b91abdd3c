-- What is found in a body is what the text of a line is there.
use Rattle.std.proofs.Common.{◌≡◌, ℕ, List, [], ◌++◌, drop, Bool, true, false, Some, codes, bytes_eq, refl, sym, ap, ◌∙◌, subst}
use Rattle.std.proofs.lemmas.Slice.Eq.{bytes_eq-Decides}
use Rattle.yarn_expr.specs.declared.token.Token.{Token}
use Rattle.yarn_items.specs.declared.item.Mode.TheVariants.{InBody}
use Rattle.yarn_items.specs.declared.item.Said.{Said}
use Rattle.yarn_items.specs.declared.item.Item.{Item}
use Rattle.yarn_items.specs.declared.item.Item.TheVariants as item
use Rattle.yarn_items.specs.declared.item.Found.{Found}
use Rattle.yarn_items.specs.Item.{is_option, is_command, IsLine, IsForm}
use Rattle.yarn_items.specs.Heading.{bare}
use Rattle.yarn_items.specs.Body.{line_found, offer_found, command_found, body_found}
use Rattle.yarn_items.proofs.FormLemmas.{found_with, HasForm, without}
use Rattle.yarn_items.proofs.LineLemmas.{line-no_end, line-found, line-only}
use Rattle.yarn_items.proofs.OfferLemmas.{begins-split, offer-found, offer-only}
use Rattle.yarn_items.proofs.CommandLemmas.{command-found, game-found, command-only}

pub body-only : (text : List ℕ) (f : Found) → body_found text ≡ Some f → HasForm InBody text f
body-only text f is = by_test (bytes_eq text (codes "===")) (is_option text) (is_command text) refl refl refl
  where
    by_test : (e o c : Bool) → bytes_eq text (codes "===") ≡ e → is_option text ≡ o → is_command text ≡ c → HasForm InBody text f
    by_test true o c i j k =
        let told : Some (bare item.NodeEnds) ≡ Some f = rw i at is in
        let same : bare item.NodeEnds ≡ f = cc in
        subst (HasForm InBody text) same (record { tokens = []; is = ((bytes_eq-Decides text (codes "===")).0 i, refl); literals = refl })
    by_test false true c i j k = offer-only text (drop 2 text) f (begins-split (codes "->") text j) (rw (i, j) at is)
    by_test false false true i j k = command-only text (drop 2 text) f (begins-split (codes "<<") text k) (rw (i, j, k) at is)
    by_test false false false i j k = line-only text f j k (rw (i, j, k) at is)

offer-body : (text bytes : List ℕ) → text ≡ codes "->" ++ bytes → body_found text ≡ offer_found bytes
offer-body text bytes split = subst (λ l. body_found l ≡ offer_found bytes) (sym split) refl

command-body : (text bytes : List ℕ) → text ≡ codes "<<" ++ bytes → body_found text ≡ command_found bytes
command-body text bytes split = subst (λ l. body_found l ≡ command_found bytes) (sym split) refl

line-body : (text : List ℕ) (tokens : List Token) (said : Said) → IsLine text tokens said → body_found text ≡ line_found text
line-body text tokens said is = rw (line-no_end text tokens said is, is.no_option, is.no_command) refl

pub body-found : (text : List ℕ) (tokens : List Token) (it : Item) → IsForm InBody text tokens it → body_found text ≡ Some (found_with tokens it)
body-found text tokens item.NodeEnds is = without item.NodeEnds tokens (body_found text) (ap body_found is.0) is.1
body-found text tokens item.BodyBegins is = absurd is
body-found text tokens (item.FileTag tag) is = absurd is
body-found text tokens (item.Header header) is = absurd is
body-found text tokens (item.Line said) is = line-body text tokens said is ∙ line-found text tokens said is
body-found text tokens (item.Offer said asked) is = offer-body text is.bytes is.split ∙ offer-found text tokens said asked is
body-found text tokens (item.Command own tags) is = command-body text is.has.bytes is.has.split ∙ command-found text tokens own tags is
body-found text tokens (item.Game said) is = command-body text is.has.bytes is.has.split ∙ game-found text tokens said is
