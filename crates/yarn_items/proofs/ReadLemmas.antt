-- What the code makes of the parts that it read is what is found.
use Rattle.std.proofs.Common.{◌≡◌, ℕ, List, [], ◌∷◌, length, nat_eq, Bool, true, false, Option, Some, None, bytes_eq, refl, sym, ap, ◌∙◌}
use Rattle.yarn_expr.specs.declared.tree.Expr.{Expr}
use Rattle.yarn_items.specs.declared.item.Literals.{Literals}
use Rattle.yarn_items.specs.declared.text.TextRead.{TextRead}
use Rattle.yarn_items.specs.declared.offer.Asked.{Asked}
use Rattle.yarn_items.specs.Hashtags.{tags_of}
use Rattle.yarn_items.specs.TextForm.{TextFound, IsTextAnswer}
use Rattle.yarn_items.specs.Body.{line_behind, line_of, Condition, both_of, condition_found, offer_with, offer_asked, offer_behind, offer_of, IsAskedAnswer}

pub line-read : (o : Option TextFound) (read : TextRead) → IsTextAnswer o (Some read) →
    line_behind read.text read.holes read.literals read.rest.now ≡ line_of o
line-read None read is = absurd is
line-read (Some t) read is = rw (is.text, is.holes, is.literals, is.rest) refl

pub offer-read : (o : Option TextFound) (read : TextRead) → IsTextAnswer o (Some read) →
    offer_behind read.text read.holes read.literals read.rest.now ≡ offer_of o
offer-read None read is = absurd is
offer-read (Some t) read is = rw (is.text, is.holes, is.literals, is.rest) refl

asked-read : (own : List ℕ) (holes : List Expr) (literals : Literals) (o : Option Condition) (asked : Asked) → IsAskedAnswer o (Some asked) →
    offer_with own holes (both_of literals asked.literals) asked.condition (tags_of asked.rest.now) ≡ offer_asked own holes literals o
asked-read own holes literals None asked is = absurd is
asked-read own holes literals (Some c) asked is = rw (is.condition, is.literals, is.rest) refl

pub offer-asked : (own : List ℕ) (holes : List Expr) (literals : Literals) (rest : List ℕ) (asked : Asked) → bytes_eq own [] ≡ false →
    IsAskedAnswer (condition_found rest) (Some asked) →
    offer_with own holes (both_of literals asked.literals) asked.condition (tags_of asked.rest.now) ≡ offer_behind own holes literals rest
offer-asked own holes literals rest asked some is = rw some (asked-read own holes literals (condition_found rest) asked is)

-- a text that isn't empty
pub some-text : (own now : List ℕ) (empty : Bool) → empty ≡ nat_eq (length now) 0 → now ≡ own → empty ≡ false → bytes_eq own [] ≡ false
some-text [] now empty is same not = let h : false ≡ true = sym not ∙ is ∙ ap (λ l. nat_eq (length l) 0) same in absurd cc
some-text (b ∷ own) now empty is same not = refl
