-- Lines that are said and have neither substitutions nor hashtags use nothing and have no id of their own.
use Rattle.std.proofs.Common.{◌≡◌, ℕ, ◌<◌, List, [], ◌∷◌, ◌++◌, length, Bool, true, false, ◌||◌, refl, sym, ap, ◌∙◌, arith, length-append, append_assoc, append-nil}
use Rattle.std.specs.Prelude.{All}
use Rattle.std.proofs.lemmas.List.Elements.{All-head, All-tail}
use Rattle.yarn_blocks.specs.declared.entry.Entry.{Entry}
use Rattle.yarn_blocks.specs.declared.entry.What.{What}
use Rattle.yarn_blocks.specs.declared.entry.What.TheVariants as what
use Rattle.yarn_blocks.specs.declared.entry.Simple.TheVariants as simple
use Rattle.yarn_blocks.specs.BodyLine.{IsBareWhat, Passed}
use Rattle.yarn_nodes.specs.Entries.{said_by}
use Rattle.yarn_tree.specs.Checks.{has_own, own_in}
use Rattle.yarn_tree.specs.Uses.{UseAt, at_place, uses_of_what, uses_in_body}

abbrev is_bare : Entry → Type 0
is_bare x = IsBareWhat x.what

bare-own : (w : What) → IsBareWhat w → has_own (said_by w) ≡ false
bare-own (what.Statement (simple.Line text)) is = rw is.1 refl
bare-own (what.Statement (simple.Set head name op e)) is = absurd is
bare-own (what.Statement (simple.Declare head name value kind)) is = absurd is
bare-own (what.Statement (simple.Jump head title)) is = absurd is
bare-own (what.Statement (simple.JumpTo head e)) is = absurd is
bare-own (what.Statement (simple.Stop head)) is = absurd is
bare-own (what.Statement (simple.Call head e)) is = absurd is
bare-own (what.Statement (simple.Command text)) is = absurd is
bare-own (what.Offer text asked) is = absurd is
bare-own (what.If head e) is = absurd is
bare-own (what.ElseIf head e) is = absurd is
bare-own (what.Else head) is = absurd is
bare-own (what.EndIf head) is = absurd is

own-behind : (bare rest : List Entry) → All is_bare bare → own_in (bare ++ rest) ≡ own_in rest
own-behind [] rest are = refl
own-behind (x ∷ bare) rest are =
    ap (λ b. b || own_in (bare ++ rest)) (bare-own x.what (All-head is_bare x bare are))
    ∙ own-behind bare rest (All-tail is_bare x bare are)

own-passed : (all rest : List Entry) → Passed all rest → own_in all ≡ own_in rest
own-passed all rest passed = ap own_in passed.split ∙ own-behind passed.bare rest passed.are_bare

pub own-here : (all rest : List Entry) (x : Entry) → Passed all (x ∷ rest) → has_own (said_by x.what) ≡ true → true ≡ own_in all
own-here all rest x passed own = sym (own-passed all (x ∷ rest) passed ∙ ap (λ b. b || own_in rest) own)

pub own-later : (all rest : List Entry) (x : Entry) → Passed all (x ∷ rest) → has_own (said_by x.what) ≡ false → own_in rest ≡ own_in all
own-later all rest x passed none = sym (own-passed all (x ∷ rest) passed ∙ ap (λ b. b || own_in rest) none)

pub own-nowhere : (all : List Entry) → Passed all [] → false ≡ own_in all
own-nowhere all passed = sym (own-passed all [] passed)

bare-uses : (w : What) → IsBareWhat w → uses_of_what w ≡ []
bare-uses (what.Statement (simple.Line text)) is = rw is.0 refl
bare-uses (what.Statement (simple.Set head name op e)) is = absurd is
bare-uses (what.Statement (simple.Declare head name value kind)) is = absurd is
bare-uses (what.Statement (simple.Jump head title)) is = absurd is
bare-uses (what.Statement (simple.JumpTo head e)) is = absurd is
bare-uses (what.Statement (simple.Stop head)) is = absurd is
bare-uses (what.Statement (simple.Call head e)) is = absurd is
bare-uses (what.Statement (simple.Command text)) is = absurd is
bare-uses (what.Offer text asked) is = absurd is
bare-uses (what.If head e) is = absurd is
bare-uses (what.ElseIf head e) is = absurd is
bare-uses (what.Else head) is = absurd is
bare-uses (what.EndIf head) is = absurd is

uses-behind : (file : ℕ) (bare rest : List Entry) → All is_bare bare → uses_in_body file (bare ++ rest) ≡ uses_in_body file rest
uses-behind file [] rest are = refl
uses-behind file (x ∷ bare) rest are =
    ap (λ us. at_place (record { file = file; line = x.line }) us ++ uses_in_body file (bare ++ rest)) (bare-uses x.what (All-head is_bare x bare are))
    ∙ uses-behind file bare rest (All-tail is_bare x bare are)

pub uses-passed : (file : ℕ) (all rest : List Entry) → Passed all rest → uses_in_body file all ≡ uses_in_body file rest
uses-passed file all rest passed = ap (uses_in_body file) passed.split ∙ uses-behind file passed.bare rest passed.are_bare

-- the uses so far with those of one line more
pub uses-more : (file : ℕ) (before after : List UseAt) (all rest : List Entry) (x : Entry) → Passed all (x ∷ rest) →
    after ≡ before ++ at_place (record { file = file; line = x.line }) (uses_of_what x.what) →
    after ++ uses_in_body file rest ≡ before ++ uses_in_body file all
uses-more file before after all rest x passed is =
    ap (λ us. us ++ uses_in_body file rest) is
    ∙ append_assoc before (at_place (record { file = file; line = x.line }) (uses_of_what x.what)) (uses_in_body file rest)
    ∙ ap (λ us. before ++ us) (sym (uses-passed file all (x ∷ rest) passed))

pub uses-end : (file : ℕ) (before : List UseAt) (all : List Entry) → Passed all [] → before ≡ before ++ uses_in_body file all
uses-end file before all passed = sym (ap (λ us. before ++ us) (uses-passed file all [] passed) ∙ append-nil before)
