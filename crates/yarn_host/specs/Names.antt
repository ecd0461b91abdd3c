-- Which function has a name, what it takes, and which signatures a table may have (docs/guide-hosts.md, The table).
use Rattle.std.specs.Prelude.{◌≡◌, ℕ, suc, List, [], ◌∷◌, length, map, nat_le, nat_eq, Bool, true, false, not, ◌&&◌, if◌then◌else◌, Option, Some, None, option_map, is_some, IsTrue}
use Rattle.std.specs.Cmp.Lexicographic.{pointwise}
use Rattle.std.specs.Str.{chars}
use Rattle.yarn_base.specs.Name.{is_name_of}
use Rattle.yarn_value.specs.declared.signature.Signature.{Signature}
use Rattle.yarn_value.specs.declared.value.Value.{Value}
use Rattle.yarn_value.specs.Values.{kind_of}
use Rattle.yarn_value.specs.Calls.{same_kinds}
use Rattle.yarn_value.specs.Signatures.{signature_named}
use Rattle.yarn_value.specs.Builtins.{builtin_rows, row_named}
use Rattle.yarn_value.specs.Replies.{is_reply_of}
use Rattle.yarn_expr.specs.Word.{is_reserved}
use Rattle.yarn_host.specs.Meaning.{Meaning}

-- ---- names

-- a name that neither expressions nor builtins have
abbrev pub is_free_name : List ℕ → Bool
is_free_name name = is_name_of (chars name) && not (is_reserved name) && not (is_some (row_named builtin_rows name))

-- the place of the first signature with a name
abbrev pub place_of : List Signature → List ℕ → Option ℕ
place_of [] name = None
place_of (one ∷ more) name = if pointwise nat_eq one.name name then Some 0 else option_map suc (place_of more name)

-- what is told of the function with a name
abbrev pub meaning_of : List Signature → List Meaning → List ℕ → Option Meaning
meaning_of [] meanings name = None
meaning_of (one ∷ more) [] name = None
meaning_of (one ∷ more) (meaning ∷ meanings) name =
    if pointwise nat_eq one.name name then Some meaning else meaning_of more meanings name

-- ---- arguments and replies

-- the function takes arguments of these kinds
abbrev pub takes : Option Signature → List Value → Bool
takes None args = false
takes (Some signature) args = same_kinds signature.params (map kind_of args)

-- there is a function with a name that takes these arguments
abbrev pub IsCallable : List Signature → List ℕ → List Value → Type 0
IsCallable signatures name args = IsTrue (takes (signature_named signatures name) args)

-- a value that the function with a name may reply: of its kind, and no text over 65,536 bytes
abbrev pub Suits : List Signature → List ℕ → Value → Type 0
Suits signatures name value = is_reply_of (signature_named signatures name) value ≡ true

-- a value that it may not reply
abbrev pub Misfits : List Signature → List ℕ → Value → Type 0
Misfits signatures name value = is_reply_of (signature_named signatures name) value ≡ false

-- ---- signatures

-- at most 16 parameters, and a name that may be a function's and that no later one has
abbrev pub are_proper : List Signature → Bool
are_proper [] = true
are_proper (one ∷ more) =
    is_free_name one.name && nat_le (length one.params) 16 && not (is_some (signature_named more one.name)) && are_proper more
