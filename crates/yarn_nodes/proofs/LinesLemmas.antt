-- What is found of lines, said over their items; and the file that lines stand for.
use Rattle.std.proofs.Common.{◌≡◌, ℕ, List, [], ◌∷◌, Bool, true, false, Option, Some, None, refl, sym, ap, ◌∙◌, subst}
use Rattle.yarn_base.specs.declared.SourceFile.{SourceFile}
use Rattle.yarn_lines.specs.declared.line.RawLine.{RawLine}
use Rattle.yarn_lines.specs.Lines.{lines_of}
use Rattle.yarn_items.specs.declared.item.Mode.{Mode}
use Rattle.yarn_items.specs.declared.item.Mode.TheVariants.{InHeaders, InBody}
use Rattle.yarn_items.specs.declared.item.Item.{Item}
use Rattle.yarn_items.specs.declared.item.Item.TheVariants as item
use Rattle.yarn_items.specs.declared.item.Found.{Found}
use Rattle.yarn_items.specs.Form.{found_of}
use Rattle.yarn_items.specs.Item.{literals_of}
use Rattle.yarn_items.specs.Laws.{ItemsAreFound}
use Rattle.yarn_nodes.specs.declared.node.FileLines.{FileLines}
use Rattle.yarn_nodes.specs.declared.node.FileRead.{FileRead}
use Rattle.yarn_nodes.specs.declared.node.NodeLines.{NodeLines}
use Rattle.yarn_nodes.specs.declared.structure.Stand.TheVariants.{Front}
use Rattle.yarn_nodes.specs.Entries.{ItemAt}
use Rattle.yarn_nodes.specs.Finds.{next_mode, mode_behind, and_item, items_from, told_at, first_told, is_nothing}
use Rattle.yarn_nodes.specs.Laws.{naming, lines_read, AreBlocks, FilesStand, StandingIsRead}
use Rattle.yarn_nodes.specs.Lines.{HasItem, IsItems, IsReadable, HasLines}
use Rattle.yarn_nodes.specs.Nodes.{tags_of, no_draft, nodes_from, titles_from}
use Rattle.yarn_nodes.specs.Places.{or_later}
use Rattle.yarn_nodes.specs.Reader.{notes_of, file_of}
use Rattle.yarn_nodes.specs.Structure.{first_misplaced}
use Rattle.yarn_nodes.proofs.EntryLemmas.{HasGiven}
use Rattle.yarn_nodes.proofs.FileLemmas.{file-tags, file-nodes, file-fine}
use Rattle.yarn_nodes.proofs.FoundLemmas.{FitsMode, Fit, file-found}

-- One line more.

pub items-step : (mode : Mode) (line : RawLine) (lines : List RawLine) (f : Option Found) → found_of mode line.text ≡ f →
    items_from mode (line ∷ lines) ≡ and_item line.number line.indent f (items_from (mode_behind mode f) lines)
items-step mode line lines f is = ap (λ (g : Option Found). and_item line.number line.indent g (items_from (mode_behind mode g) lines)) is

pub told-step : (test : Option Found → Bool) (mode : Mode) (line : RawLine) (lines : List RawLine) (f : Option Found) → found_of mode line.text ≡ f →
    first_told test mode (line ∷ lines) ≡ or_later (told_at test line.number f) (first_told test (mode_behind mode f) lines)
told-step test mode line lines f is =
    ap (λ (g : Option Found). or_later (told_at test line.number g) (first_told test (mode_behind mode g) lines)) is

fits-mode : (mode : Mode) (text : List ℕ) (i : Item) → HasItem mode text i → FitsMode mode i
fits-mode InHeaders text (item.FileTag tag) is = tt
fits-mode InHeaders text (item.Header header) is = tt
fits-mode InHeaders text item.BodyBegins is = tt
fits-mode InHeaders text item.NodeEnds is = tt
fits-mode InHeaders text (item.Line said) is = absurd is.1.1
fits-mode InHeaders text (item.Offer said asked) is = absurd is.1.1
fits-mode InHeaders text (item.Command own tags) is = absurd is.1.1
fits-mode InHeaders text (item.Game said) is = absurd is.1.1
fits-mode InBody text (item.FileTag tag) is = absurd is.1.1
fits-mode InBody text (item.Header header) is = absurd is.1.1
fits-mode InBody text item.BodyBegins is = absurd is.1.1
fits-mode InBody text item.NodeEnds is = tt
fits-mode InBody text (item.Line said) is = tt
fits-mode InBody text (item.Offer said asked) is = tt
fits-mode InBody text (item.Command own tags) is = is.1.1.no_game
fits-mode InBody text (item.Game said) is = tt

pub items-fit : (mode : Mode) (lines : List RawLine) (items : List ItemAt) → IsItems mode lines items → Fit mode items
items-fit mode [] [] is = tt
items-fit mode [] (x ∷ items) is = absurd is
items-fit mode (line ∷ lines) [] is = absurd is
items-fit mode (line ∷ lines) (x ∷ items) is = (fits-mode mode line.text x.item is.2, items-fit (next_mode mode x.item) lines items is.3)

abbrev pub items_in : SourceFile → List ItemAt
items_in source = items_from InHeaders (lines_of source.bytes).lines

-- what is read of a file
abbrev pub read_in : Bool → ℕ → SourceFile → FileRead
read_in ids number source = record {
  number = number;
  file = record { name = source.name; tags = tags_of (items_in source); nodes = nodes_from ids no_draft (items_in source) };
  titles = titles_from ids no_draft (items_in source);
  notes = notes_of (lines_of source.bytes);
}

pub the-read : (ids : Bool) (number : ℕ) (source : SourceFile) → lines_read ids number source ≡ read_in ids number source
unfolding file_of
the-read ids number source = refl

-- ids as they are named, and as they are given
pub named-given : (ids : Bool) (source : SourceFile) (file : FileLines) → HasLines (naming ids) source file → HasLines (HasGiven ids) source file
named-given true source file stands = stands
named-given false source file stands = stands

given-named : (ids : Bool) (source : SourceFile) (file : FileLines) → HasLines (HasGiven ids) source file → HasLines (naming ids) source file
given-named true source file stands = stands
given-named false source file stands = stands

same_file : (file : FileLines) (name : List ℕ) (tags : List (List ℕ)) (nodes : List NodeLines) → file.name ≡ name → tags ≡ file.tags → nodes ≡ file.nodes →
    record { name = name; tags = tags; nodes = nodes } ≡ file
same_file file name tags nodes a b c =
    ap (λ (n : List ℕ). record { name = n; tags = tags; nodes = nodes }) (sym a)
    ∙ ap (λ (t : List (List ℕ)). record { name = file.name; tags = t; nodes = nodes }) b
    ∙ ap (λ (n : List NodeLines). record { name = file.name; tags = file.tags; nodes = n }) c

module _ (items_found : ItemsAreFound) where
  -- the item of a line is found
  pub item-found : (mode : Mode) (text : List ℕ) (i : Item) (has : HasItem mode text i) →
      found_of mode text ≡ Some (record { item = i; literals = literals_of has.0 })
  item-found mode text i has =
      (items_found mode text (record { item = i; literals = literals_of has.0 })).1 (record { tokens = has.0; is = has.1; literals = refl })

  -- lines that have items have those that are found
  pub items-have : (mode : Mode) (lines : List RawLine) (items : List ItemAt) → IsItems mode lines items →
      (items_from mode lines ≡ items) × (first_told is_nothing mode lines ≡ None)
  items-have mode [] [] is = (refl, refl)
  items-have mode [] (x ∷ items) is = absurd is
  items-have mode (line ∷ lines) [] is = absurd is
  items-have mode (line ∷ lines) (x ∷ items) is =
      let f : Option Found = Some (record { item = x.item; literals = literals_of is.2.0 }) in
      let found : found_of mode line.text ≡ f = item-found mode line.text x.item is.2 in
      let rest = items-have (next_mode mode x.item) lines items is.3 in (
        items-step mode line lines f found
            ∙ ap (λ (n : ℕ). record { line = n; indent = line.indent; item = x.item } ∷ items_from (next_mode mode x.item) lines) (sym is.0)
            ∙ ap (λ (n : ℕ). record { line = x.line; indent = n; item = x.item } ∷ items_from (next_mode mode x.item) lines) (sym is.1)
            ∙ ap (λ (l : List ItemAt). x ∷ l) rest.0,
        told-step is_nothing mode line lines f found ∙ rest.1,
      )

  pub fine-items : (mode : Mode) (lines : List RawLine) → first_told is_nothing mode lines ≡ None → IsItems mode lines (items_from mode lines)
  fine-items mode [] fine = tt
  fine-items mode (line ∷ lines) fine = by_found (λ i. fine-items (next_mode mode i) lines) (found_of mode line.text) refl
    where
      by_found : ((i : Item) → first_told is_nothing (next_mode mode i) lines ≡ None → IsItems (next_mode mode i) lines (items_from (next_mode mode i) lines)) →
          (f : Option Found) → found_of mode line.text ≡ f → IsItems mode (line ∷ lines) (items_from mode (line ∷ lines))
      by_found later (Some f) is =
          let rest = later f.item (sym (told-step is_nothing mode line lines (Some f) is) ∙ fine) in
          let found = (items_found mode line.text f).0 is in
          subst (IsItems mode (line ∷ lines)) (sym (items-step mode line lines (Some f) is)) (refl, refl, (found.tokens, found.is), rest)
      by_found later None is = let h : Some line.number ≡ None = sym (told-step is_nothing mode line lines None is) ∙ fine in absurd cc

  -- the file that is read stands for what is read
  clear-stands : (ids : Bool) (number : ℕ) (source : SourceFile) → IsReadable source.bytes → (read_in ids number source).notes.bad ≡ None →
      (read_in ids number source).notes.misplaced ≡ None →
      HasLines (HasGiven ids) source (read_in ids number source).file × AreBlocks (read_in ids number source).file
  clear-stands ids number source readable fine placed =
      let lines = (lines_of source.bytes).lines in
      let has = fine-items InHeaders lines fine in
      let found = file-found ids [] (lines_of source.bytes).end source.name (items_in source) (items-fit InHeaders lines (items_in source) has) placed in (
        record { named = refl; items = items_in source; readable = readable; has_items = has; is_file = found.0 },
        found.1,
      )

  stands-clear : (ids : Bool) (number : ℕ) (source : SourceFile) (file : FileLines) → HasLines (HasGiven ids) source file → AreBlocks file →
      ((read_in ids number source).notes.bad ≡ None) × ((read_in ids number source).notes.misplaced ≡ None) × ((read_in ids number source).file ≡ file)
  stands-clear ids number source file stands blocks =
      let end = (lines_of source.bytes).end in
      let have = items-have InHeaders (lines_of source.bytes).lines stands.items stands.has_items in (
        have.1,
        ap (first_misplaced Front [] end) have.0 ∙ file-fine ids end stands.is_file blocks,
        same_file file source.name (tags_of (items_in source)) (nodes_from ids no_draft (items_in source)) stands.named
            (ap tags_of have.0 ∙ file-tags ids stands.is_file) (ap (nodes_from ids no_draft) have.0 ∙ file-nodes ids stands.is_file),
      )

  pub files_stand : FilesStand
  files_stand ids number source readable fine placed =
      let same = the-read ids number source in
      let clear = clear-stands ids number source readable
      (ap (λ (r : FileRead). r.notes.bad) (sym same) ∙ fine) (ap (λ (r : FileRead). r.notes.misplaced) (sym same) ∙ placed) in
      subst (λ (r : FileRead). HasLines (naming ids) source r.file × AreBlocks r.file) (sym same) (given-named ids source (read_in ids number source).file clear.0, clear.1)

  pub standing_is_read : StandingIsRead
  standing_is_read ids number source file stands blocks =
      subst (λ (r : FileRead). (r.notes.bad ≡ None) × (r.notes.misplaced ≡ None) × (r.file ≡ file)) (sym (the-read ids number source))
      (stands-clear ids number source file (named-given ids source file stands) blocks)
