-- What `add` does to a table, and why it refuses a function (docs/guide-hosts.md, Adding a function).
use Rattle.std.specs.Prelude.{◌≡◌, ℕ, ◌++◌, List, [], ◌∷◌, length, not, nat_le, Option, Some, None, is_some, Result, Ok, Err, if◌then◌else◌, ⊤}
use Rattle.yarn_value.specs.declared.signature.Signature.{Signature}
use Rattle.yarn_value.specs.Signatures.{signature_named}
use Rattle.yarn_host.specs.declared.table.AddFault.{AddFault}
use Rattle.yarn_host.specs.declared.table.AddFault.TheVariants.{ReservedFunction, DuplicateFunction, TooManyFunctions, Memory}
use Rattle.yarn_host.specs.Meaning.{Meaning}
use Rattle.yarn_host.specs.Names.{is_free_name}
use Rattle.yarn_host.specs.Hosts.{Hosts}

-- why a table with these signatures refuses a function with that name: the first of the three
abbrev pub refusal_of : List Signature → List ℕ → Option AddFault
refusal_of signatures name =
    if not (is_free_name name) then Some ReservedFunction
    else if is_some (signature_named signatures name) then Some DuplicateFunction
    else if nat_le 256 (length signatures) then Some TooManyFunctions
    else None

-- the table with one more function, the last; the tape stays
abbrev pub with_function : Hosts → Signature → Meaning → Hosts
with_function hosts signature meaning = record hosts {
  signatures = hosts.signatures ++ signature ∷ [];
  meanings = hosts.meanings ++ meaning ∷ [];
}

-- the answer to a function that is refused for this cause; one that is refused for none is kept out by want of memory alone
abbrev pub IsAnswer : {T S F : Type 0} → Option AddFault → Result T (S × F × AddFault) → Type 0
IsAnswer (Some fault) (Ok done) = ⊥
IsAnswer (Some fault) (Err back) = back.2 ≡ fault
IsAnswer None (Ok done) = ⊤
IsAnswer None (Err back) = back.2 ≡ Memory
