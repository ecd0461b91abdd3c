-- Whether a program that was read takes all of the bytes.
use Rattle.std.proofs.Common.{◌≡◌, ◌≢◌, ℕ, List, [], length, Ok, Err, refl, ap, ◌∙◌}
use Rattle.yarn_code.specs.declared.fault.Stop.{Stop}
use Rattle.yarn_code.specs.declared.fault.Stop.TheVariants as stops
use Rattle.yarn_code.specs.declared.program.Program.{Program}
use Rattle.yarn_code.specs.Decoding.{Stopped, IsWhole}
use Rattle.yarn_code.specs.FormatReading.{read}
use Rattle.yarn_code.specs.Layout.{program_file}
use Rattle.yarn_code.proofs.FieldLemmas.{IsBytes}
use Rattle.yarn_code.proofs.FormatLemmas.{Refused, Follows, read_spells, stop_refuses}

pub whole_stops : (bytes : List ℕ) (stop : Stop) → IsBytes bytes → Stopped stop (read program_file bytes) → IsWhole bytes (Err stop)
whole_stops bytes stops.Memory fits e = tt
whole_stops bytes (stops.Left left) fits e = let r = stop_refuses program_file bytes left fits (Refused e) in (r.at, r.place, r.bad)

pub whole_follows : (bytes : List ℕ) (p : Program) (rest : List ℕ) → IsBytes bytes → rest ≢ [] → read program_file bytes ≡ Ok (p, rest) → IsWhole bytes (Err (stops.Left (length rest)))
whole_follows bytes p rest fits some e = let r = stop_refuses program_file bytes (length rest) fits (Follows p rest some refl e) in (r.at, r.place, r.bad)

pub whole_ends : (bytes : List ℕ) (p : Program) (rest : List ℕ) → IsBytes bytes → rest ≡ [] → read program_file bytes ≡ Ok (p, rest) → IsWhole bytes (Ok p)
whole_ends bytes p rest fits none e = read_spells program_file bytes p fits (e ∙ ap (λ l. Ok (p, l)) none)
