-- The text of lines that are laid out, in the steps in which it is written.
use Rattle.std.proofs.Common.{◌≡◌, ℕ, ◌+◌, List, [], ◌∷◌, ◌++◌, Bool, if◌then◌else◌, ap, ◌∙◌, append-nil}
use Rattle.std.proofs.lemmas.List.Concat.{flat_map-append}
use Rattle.yarn_blocks.specs.declared.tree.Head.{Head}
use Rattle.yarn_blocks.specs.declared.entry.Entry.{Entry}
use Rattle.yarn_blocks.specs.declared.entry.What.TheVariants as what
use Rattle.yarn_blocks.specs.Tree as T
use Rattle.yarn_blocks.specs.Layout.{at_depth, laid_one, laid_clauses, laid_others, laid_last}
use Rattle.yarn_print.specs.Print.{entry_text, entries_text}

-- the lines of clauses, the first of them the `if` itself or an `elseif`
abbrev pub laid_from : Bool → ℕ → T.Clauses → List Entry
laid_from is_first depth cs = if is_first then laid_clauses depth cs else laid_others depth cs

pub entries-append : (xs ys : List Entry) → entries_text (xs ++ ys) ≡ entries_text xs ++ entries_text ys
entries-append xs ys = flat_map-append entry_text xs ys

pub choice-text : (depth : ℕ) (cs : T.Clauses) (last : T.Last) (e : Head) →
    entries_text (laid_one depth (T.Choice cs last e)) ≡ entries_text (laid_clauses depth cs) ++ (entries_text (laid_last depth last) ++ entry_text (at_depth depth (what.EndIf e)))
choice-text depth cs last e =
    entries-append (laid_clauses depth cs) (laid_last depth last ++ at_depth depth (what.EndIf e) ∷ [])
    ∙ ap (λ l. entries_text (laid_clauses depth cs) ++ l) (entries-append (laid_last depth last) (at_depth depth (what.EndIf e) ∷ [])
    ∙ ap (λ l. entries_text (laid_last depth last) ++ l) (append-nil (entry_text (at_depth depth (what.EndIf e)))))
