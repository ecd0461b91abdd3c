-- The words of each instruction.
use Rattle.std.proofs.Common.{◌≡◌, ℕ, zero, suc, ℤ, Bool, List, [], ◌∷◌, ◌++◌, codes, Some, slice_get, refl, sym, ap, subst, ◌∙◌, append_assoc}
use Rattle.std.specs.Prelude.{⊤}
use Rattle.std.proofs.lemmas.List.{append-nil}
use Rattle.std.specs.Fmt.{decimal, signed_decimal}
use Rattle.yarn_value.specs.Quoting.{quoted}
use Rattle.yarn_code.specs.declared.program.Instr.{Instr}
use Rattle.yarn_code.specs.declared.program.Instr.TheVariants as code
use Rattle.yarn_code.specs.Opcodes.{Operands, Makes, Label, Count, Name, Template, Pushed, Whole, Truth, Opcode, opcodes}
use Rattle.yarn_code.specs.Listing.{Words, spaced, truth_word, AreOperands, Tells}
use Rattle.yarn_code.specs.ListingSteps.{AddsWords}
use Rattle.yarn_code.specs.ListingText.{words_of}

pub words_tell : (i : Instr) → Tells i (words_of i)
words_tell (code.JumpTo label) = record { number = 0; row = _; operands = _; listed = refl; make = (label, [], refl, (refl, refl)); are = refl }
words_tell code.Jump = record { number = 1; row = _; operands = []; listed = refl; make = (refl, refl); are = refl }
words_tell (code.RunLine count id) = record { number = 2; row = _; operands = _; listed = refl; make = (count, id ∷ [], refl, (id, [], refl, (refl, refl))); are = refl }
words_tell (code.RunCommand count text) = record { number = 3; row = _; operands = _; listed = refl; make = (count, quoted text ∷ [], refl, (text, [], refl, (refl, refl))); are = refl }
words_tell (code.AddOption count id label conditional) = record {
  number = 4;
  row = _;
  operands = _;
  listed = refl;
  make = (
    count,
    id ∷ decimal label ∷ truth_word conditional ∷ [],
    refl,
    (
      id,
      decimal label ∷ truth_word conditional ∷ [],
      refl,
      (label, truth_word conditional ∷ [], refl, (conditional, [], refl, (refl, refl))),
    ),
  );
  are = refl;
}
words_tell code.ShowOptions = record { number = 5; row = _; operands = []; listed = refl; make = (refl, refl); are = refl }
words_tell (code.PushString text) = record { number = 6; row = _; operands = _; listed = refl; make = (text, [], refl, (refl, refl)); are = refl }
words_tell (code.PushFloat number) = record { number = 7; row = _; operands = _; listed = refl; make = (number, [], refl, (refl, refl)); are = refl }
words_tell (code.PushBool value) = record { number = 8; row = _; operands = _; listed = refl; make = (value, [], refl, (refl, refl)); are = refl }
words_tell code.PushNull = record { number = 9; row = _; operands = []; listed = refl; make = (refl, refl); are = refl }
words_tell (code.JumpIfFalse label) = record { number = 10; row = _; operands = _; listed = refl; make = (label, [], refl, (refl, refl)); are = refl }
words_tell code.Pop = record { number = 11; row = _; operands = []; listed = refl; make = (refl, refl); are = refl }
words_tell (code.CallFunc count name) = record { number = 12; row = _; operands = _; listed = refl; make = (count, name ∷ [], refl, (name, [], refl, (refl, refl))); are = refl }
words_tell (code.PushVariable name) = record { number = 13; row = _; operands = _; listed = refl; make = (name, [], refl, (refl, refl)); are = refl }
words_tell (code.StoreVariable name) = record { number = 14; row = _; operands = _; listed = refl; make = (name, [], refl, (refl, refl)); are = refl }
words_tell code.Stop = record { number = 15; row = _; operands = []; listed = refl; make = (refl, refl); are = refl }
words_tell code.RunNode = record { number = 16; row = _; operands = []; listed = refl; make = (refl, refl); are = refl }

-- ---- an instruction has no other words

-- whatever the operands are, these words and those of the operands are the words of what they make
abbrev Gives : Words → Operands → Type 0
Gives front (Makes made) = words_of made ≡ front
Gives front (Label next) = (n : ℕ) → Gives (front ++ decimal n ∷ []) (next n)
Gives front (Count next) = (n : ℕ) → Gives (front ++ decimal n ∷ []) (next n)
Gives front (Name next) = (name : List ℕ) → Gives (front ++ name ∷ []) (next name)
Gives front (Template holes next) = (text : List ℕ) → Gives (front ++ quoted text ∷ []) (next text)
Gives front (Pushed next) = (text : List ℕ) → Gives (front ++ quoted text ∷ []) (next text)
Gives front (Whole next) = (z : ℤ) → Gives (front ++ signed_decimal z ∷ []) (next z)
Gives front (Truth next) = (b : Bool) → Gives (front ++ truth_word b ∷ []) (next b)

-- one word more
joins : (front more words rest : Words) (w : List ℕ) → words ≡ w ∷ rest → more ≡ (front ++ w ∷ []) ++ rest → more ≡ front ++ words
joins front more words rest w is e = e ∙ append_assoc front (w ∷ []) rest ∙ ap (λ l. front ++ l) (sym is)

made_of : (o : Operands) (front : Words) (i : Instr) (words : Words) → Gives front o → AreOperands o i words → words_of i ≡ front ++ words
made_of (Makes made) front i words gives (same, none) = ap words_of (sym same) ∙ gives ∙ sym (append-nil front) ∙ ap (λ l. front ++ l) (sym none)
made_of (Label next) front i words gives (n, rest, is, make) = joins front (words_of i) words rest (decimal n) is (made_of (next n) (front ++ decimal n ∷ []) i rest (gives n) make)
made_of (Count next) front i words gives (n, rest, is, make) = joins front (words_of i) words rest (decimal n) is (made_of (next n) (front ++ decimal n ∷ []) i rest (gives n) make)
made_of (Name next) front i words gives (name, rest, is, make) = joins front (words_of i) words rest name is (made_of (next name) (front ++ name ∷ []) i rest (gives name) make)
made_of (Template holes next) front i words gives (text, rest, is, make) = joins front (words_of i) words rest (quoted text) is (made_of (next text) (front ++ quoted text ∷ []) i rest (gives text) make)
made_of (Pushed next) front i words gives (text, rest, is, make) = joins front (words_of i) words rest (quoted text) is (made_of (next text) (front ++ quoted text ∷ []) i rest (gives text) make)
made_of (Whole next) front i words gives (z, rest, is, make) = joins front (words_of i) words rest (signed_decimal z) is (made_of (next z) (front ++ signed_decimal z ∷ []) i rest (gives z) make)
made_of (Truth next) front i words gives (b, rest, is, make) = joins front (words_of i) words rest (truth_word b) is (made_of (next b) (front ++ truth_word b ∷ []) i rest (gives b) make)

-- so of each row
abbrev GivesRow : Opcode → Type 0
GivesRow row = Gives (row.name ∷ []) row.operands

abbrev GiveRows : List Opcode → Type 0
GiveRows [] = ⊤
GiveRows (row ∷ rows) = GivesRow row × GiveRows rows

row_there : (rows : List Opcode) (number : ℕ) (row : Opcode) → GiveRows rows → slice_get rows number ≡ Some row → GivesRow row
row_there [] number row all at = absurd cc
row_there (r ∷ rows) zero row all at = let e : r ≡ row = cc in subst GivesRow e all.0
row_there (r ∷ rows) (suc number) row all at = row_there rows number row all.1 at

all_rows : GiveRows opcodes
all_rows =
    (λ label. refl, (refl, (λ count id. refl, (λ count text. refl, (λ count id label conditional. refl, (refl, (λ text. refl, (λ number. refl, (λ value. refl, (refl, (λ label. refl, (refl, (λ count name. refl, (λ name. refl, (λ name. refl, (refl, (refl, tt)))))))))))))))))

pub words_only : (i : Instr) (words : Words) → Tells i words → words ≡ words_of i
words_only i words t = t.are ∙ sym (made_of t.row.operands (t.row.name ∷ []) i t.operands (row_there opcodes t.number t.row all_rows t.listed) t.make)

pub adds_words : (i : Instr) (old new : List ℕ) → new ≡ old ++ spaced (words_of i) → AddsWords i old new
adds_words i old new is words t = is ∙ ap (λ w. old ++ spaced w) (sym (words_only i words t))

-- the same of an instruction that is known
pub told_words : (i made : Instr) (old new : List ℕ) → i ≡ made → new ≡ old ++ spaced (words_of made) → AddsWords i old new
told_words i made old new same is = adds_words i old new (is ∙ ap (λ k. old ++ spaced (words_of k)) (sym same))
