-- What is written of the events (docs/language.md, The transcript).
use Rattle.std.specs.Prelude.{ℕ, suc, List, [], ◌∷◌, ◌++◌, codes, Bool, if◌then◌else◌}
use Rattle.std.specs.Fmt.{decimal}
use Rattle.yarn_code.specs.declared.event.Event.{Event}
use Rattle.yarn_code.specs.declared.event.Event.TheVariants.{NodeStart, Line, Options, Rejected, Command, NodeEnd, End}
use Rattle.yarn_code.specs.declared.event.Choice.{Choice}
use Rattle.yarn_code.specs.Moments.{Moment}
use Rattle.yarn_meaning.specs.Filled.{filled}
use Rattle.yarn_meaning.specs.Texts.{Table}

abbrev pub ended : List ℕ → List ℕ
ended text = text ++ 10 ∷ []

abbrev pub closed : Bool → List ℕ
closed available = if available then [] else codes "[closed] "

-- `N) ` and the text, with `[closed] ` before the text of one that can't be chosen
abbrev pub option_text : ℕ → Bool → List ℕ → List ℕ
option_text n available text = decimal n ++ (codes ") " ++ (closed available ++ ended text))

-- the options, of which the first has that number
abbrev pub options_text : Table → ℕ → List Choice → List ℕ
options_text table n [] = []
options_text table n (c ∷ cs) = option_text n c.available (filled (table c.id) c.values) ++ options_text table (suc n) cs

-- nothing is written of the other events
abbrev pub shown : Table → Event → List ℕ
shown table (Line id values) = ended (filled (table id) values)
shown table (Options cs) = options_text table 1 cs
shown table Rejected = ended (codes "(no such choice)")
shown table (Command text) = ended (codes "<<" ++ (text ++ codes ">>"))
shown table (NodeStart title) = []
shown table (NodeEnd title) = []
shown table End = []

abbrev pub transcript : Table → List Moment → List ℕ
transcript table [] = []
transcript table (m ∷ ms) = shown table m.event ++ transcript table ms
