-- One pair among words.
use Rattle.std.proofs.Common.{◌≡◌, ℕ, ◌-◌, ◌<◌, List, [], ◌∷◌, length, take, drop, get_or, Option, Some, sym, ap, arith}
use Rattle.std.proofs.lemmas.List.{take_rest}
use Rattle.yarn_cli.specs.declared.command.CommandKind.{CommandKind}
use Rattle.yarn_cli.specs.declared.command.Pair.{Pair}
use Rattle.yarn_cli.specs.CommandLine.{Row, row_in, rows_of}
use Rattle.yarn_cli.specs.Found.{at_row, given, with_names, with_pair, found_behind}

pub found_behind-pair : (kind : CommandKind) (row : Row) (words : List (List ℕ)) (word value : List ℕ) → 1 < length words →
    word ≡ get_or words 0 word → value ≡ get_or words 1 value → Some row ≡ row_in word (rows_of kind) →
    ((taken : List Pair) → found_behind kind taken words
    ≡ given (with_pair taken row value) (λ more. found_behind kind more (take (length words - 2) (drop 2 words))))
    × (length (take (length words - 2) (drop 2 words)) < length words)
found_behind-pair kind row [] word value lt first second is = absurd (omega arith)
found_behind-pair kind row (x ∷ []) word value lt first second is = absurd (omega arith)
found_behind-pair kind row (x ∷ y ∷ words) word value lt first second is =
    let rest : take (length (x ∷ y ∷ words) - 2) (drop 2 (x ∷ y ∷ words)) ≡ words = take_rest (x ∷ y ∷ words) 2 in
    rw rest (by_taken, omega arith)
  where
    by_taken : (taken : List Pair) → found_behind kind taken (x ∷ y ∷ words)
        ≡ given (with_pair taken row value) (λ more. found_behind kind more words)
    by_taken taken = rw (← first, ← second)
        (ap (λ (o : Option Row). at_row o (with_names kind taken (word ∷ value ∷ words)) (λ r. given (with_pair taken r value) (λ more. found_behind kind more words))) (sym is))
