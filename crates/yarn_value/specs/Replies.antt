-- How a reply is taken from the tape (docs/language.md, The meaning).
use Rattle.std.specs.Prelude.{ℕ, nat_le, List, [], ◌∷◌, length, Bool, true, false, ◌&&◌, if◌then◌else◌, Option, Some, None}
use Rattle.yarn_value.specs.declared.value.Value.{Value}
use Rattle.yarn_value.specs.declared.value.Value.TheVariants.{Number, Str, Truth}
use Rattle.yarn_value.specs.declared.signature.Signature.{Signature}
use Rattle.yarn_value.specs.Values.{kind_of}
use Rattle.yarn_value.specs.Rows.{same_kind}
use Rattle.yarn_value.specs.Operations.{same_value, same_text}
use Rattle.yarn_value.specs.Signatures.{signature_named}
use Rattle.yarn_value.specs.Tape.{Tape}
use Rattle.yarn_value.specs.Evaluation.{Evaluated, Gives, Halts, Asks, BadReply}

-- a text of at most 65,536 bytes, a number or a truth
abbrev pub is_short : Value → Bool
is_short (Number n) = true
is_short (Str text) = nat_le (length text) 65536
is_short (Truth b) = true

-- a reply of the kind that the function has
abbrev pub is_reply_of : Option Signature → Value → Bool
is_reply_of None value = false
is_reply_of (Some signature) value = same_kind signature.result (kind_of value) && is_short value

abbrev pub same_values : List Value → List Value → Bool
same_values [] [] = true
same_values (v ∷ vs) (w ∷ ws) = same_value v w && same_values vs ws
same_values _ _ = false

-- the next reply, where it was given to this question
abbrev pub replied : List Signature → List ℕ → List Value → Tape → Evaluated Value
replied functions name args [] = Halts (Asks name args) []
replied functions name args (r ∷ t) =
    if same_text r.name name && same_values r.args args
    then (if is_reply_of (signature_named functions name) r.value then Gives r.value t else Halts (BadReply name r.value) t)
    else Halts (Asks name args) (r ∷ t)
