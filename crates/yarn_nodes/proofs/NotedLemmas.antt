-- The first line of each kind that is noted.
use Rattle.std.proofs.Common.{◌≡◌, ◌↔◌, ℕ, List, [], ◌∷◌, ◌++◌, length, nat_lt, true, Bool, false, cond, bytes_eq, codes, Option, Some, None, refl, sym, ap, ◌∙◌}
use Rattle.std.specs.List.{list_any}
use Rattle.std.proofs.lemmas.Slice.Eq.{bytes_eq-Decides}
use Rattle.yarn_base.specs.declared.SourceFile.{SourceFile}
use Rattle.yarn_lines.specs.declared.line.RawLine.{RawLine}
use Rattle.yarn_lines.specs.Lines.{lines_of}
use Rattle.yarn_expr.specs.declared.token.Token.{Token}
use Rattle.yarn_expr.specs.Literal.{is_fraction, is_large}
use Rattle.yarn_items.specs.declared.item.Mode.{Mode}
use Rattle.yarn_items.specs.declared.item.Mode.TheVariants.{InHeaders, InBody}
use Rattle.yarn_items.specs.declared.item.Item.{Item}
use Rattle.yarn_items.specs.declared.item.Item.TheVariants as item
use Rattle.yarn_items.specs.declared.item.Literals.{Literals}
use Rattle.yarn_items.specs.declared.item.Found.{Found}
use Rattle.yarn_items.specs.Form.{found_of}
use Rattle.yarn_items.specs.Item.{IsItem, IsFound}
use Rattle.yarn_items.specs.Laws.{ItemsAreFound}
use Rattle.yarn_nodes.specs.Finds.{next_mode, mode_behind, first_told, is_nothing, has_fraction, has_large, holes_in, has_many_holes}
use Rattle.yarn_nodes.specs.Laws.{mode_past, mode_at, NoLine, IsFirstIn, IsNothing, HasFraction, HasLarge, HasManyHoles, NotesFirst, LinesAreNoted}
use Rattle.yarn_nodes.specs.Lines.{HasItem}
use Rattle.yarn_nodes.specs.Places.{or_later}
use Rattle.yarn_nodes.proofs.LinesLemmas.{item-found}

-- The mode of a line.

dashes-begin : (text : List ℕ) → text ≡ codes "---" → HasItem InHeaders text item.BodyBegins
dashes-begin text is = ([], (ap (list_any _) is, (is, refl)))

ends-end : (text : List ℕ) → text ≡ codes "===" → HasItem InBody text item.NodeEnds
ends-end text is = ([], (ap (list_any _) is, (is, refl)))

module _ (items_found : ItemsAreFound) where
  headers-past : (text : List ℕ) (i : Item) → HasItem InHeaders text i → bytes_eq text (codes "---") ≡ false → next_mode InHeaders i ≡ InHeaders
  headers-past text (item.FileTag tag) is other = refl
  headers-past text (item.Header header) is other = refl
  headers-past text item.BodyBegins is other =
      let h = (bytes_eq-Decides text (codes "---")).1 is.1.1.0 in absurd cc
  headers-past text item.NodeEnds is other = refl
  headers-past text (item.Line said) is other = refl
  headers-past text (item.Offer said asked) is other = refl
  headers-past text (item.Command own tags) is other = refl
  headers-past text (item.Game said) is other = refl

  body-past : (text : List ℕ) (i : Item) → HasItem InBody text i → bytes_eq text (codes "===") ≡ false → next_mode InBody i ≡ InBody
  body-past text (item.FileTag tag) is other = refl
  body-past text (item.Header header) is other = refl
  body-past text item.BodyBegins is other = refl
  body-past text item.NodeEnds is other =
      let h = (bytes_eq-Decides text (codes "===")).1 is.1.1.0 in absurd cc
  body-past text (item.Line said) is other = refl
  body-past text (item.Offer said asked) is other = refl
  body-past text (item.Command own tags) is other = refl
  body-past text (item.Game said) is other = refl

  has-item : (mode : Mode) (text : List ℕ) (f : Found) → found_of mode text ≡ Some f → HasItem mode text f.item
  has-item mode text f is = let found = (items_found mode text f).0 is in (found.tokens, found.is)

  behind-past : (mode : Mode) (text : List ℕ) (f : Option Found) → found_of mode text ≡ f →
      ((i : Item) → HasItem mode text i → next_mode mode i ≡ mode) → mode_behind mode f ≡ mode
  behind-past mode text (Some f) is past = past f.item (has-item mode text f is)
  behind-past mode text None is past = refl

  pub mode-past : (mode : Mode) (text : List ℕ) → mode_behind mode (found_of mode text) ≡ mode_past mode text
  mode-past InHeaders text = by_test (bytes_eq text (codes "---")) refl
    where
      by_test : (t : Bool) → bytes_eq text (codes "---") ≡ t → mode_behind InHeaders (found_of InHeaders text) ≡ mode_past InHeaders text
      by_test true is =
          let found = item-found items_found InHeaders text item.BodyBegins (dashes-begin text ((bytes_eq-Decides text (codes "---")).0 is)) in
          ap (mode_behind InHeaders) found ∙ sym (ap (λ (t : Bool). cond t InBody InHeaders) is)
      by_test false is =
          behind-past InHeaders text (found_of InHeaders text) refl (λ i has. headers-past text i has is)
          ∙ sym (ap (λ (t : Bool). cond t InBody InHeaders) is)
  mode-past InBody text = by_test (bytes_eq text (codes "===")) refl
    where
      by_test : (t : Bool) → bytes_eq text (codes "===") ≡ t → mode_behind InBody (found_of InBody text) ≡ mode_past InBody text
      by_test true is =
          let found = item-found items_found InBody text item.NodeEnds (ends-end text ((bytes_eq-Decides text (codes "===")).0 is)) in
          ap (mode_behind InBody) found ∙ sym (ap (λ (t : Bool). cond t InHeaders InBody) is)
      by_test false is =
          behind-past InBody text (found_of InBody text) refl (λ i has. body-past text i has is)
          ∙ sym (ap (λ (t : Bool). cond t InHeaders InBody) is)

-- The first line that a test finds.

module _ (items_found : ItemsAreFound) (test : Option Found → Bool) (P : Mode → List ℕ → Type 0)
    (decides : (mode : Mode) (text : List ℕ) → (test (found_of mode text) ≡ true) ↔ P mode text) where
  step : (mode : Mode) (line : RawLine) (lines : List RawLine) → test (found_of mode line.text) ≡ false →
      first_told test mode (line ∷ lines) ≡ first_told test (mode_past mode line.text) lines
  step mode line lines is =
      ap (λ (t : Bool). or_later (cond t (Some line.number) None) (first_told test (mode_behind mode (found_of mode line.text)) lines)) is
      ∙ ap (λ (m : Mode). first_told test m lines) (mode-past items_found mode line.text)

  here : (mode : Mode) (line : RawLine) (lines : List RawLine) → test (found_of mode line.text) ≡ true → first_told test mode (line ∷ lines) ≡ Some line.number
  here mode line lines is =
      ap (λ (t : Bool). or_later (cond t (Some line.number) None) (first_told test (mode_behind mode (found_of mode line.text)) lines)) is

  not-here : (mode : Mode) (text : List ℕ) → (P mode text → ⊥) → test (found_of mode text) ≡ false
  not-here mode text none = by_test (test (found_of mode text)) refl
    where
      by_test : (t : Bool) → test (found_of mode text) ≡ t → test (found_of mode text) ≡ false
      by_test true is = absurd (none ((decides mode text).0 is))
      by_test false is = is

  lines-none : (mode : Mode) (lines : List RawLine) → first_told test mode lines ≡ None → NoLine P mode lines
  lines-none mode [] none = tt
  lines-none mode (line ∷ lines) none = by_test (lines-none (mode_past mode line.text) lines) (test (found_of mode line.text)) refl
    where
      by_test : (first_told test (mode_past mode line.text) lines ≡ None → NoLine P (mode_past mode line.text) lines) →
          (t : Bool) → test (found_of mode line.text) ≡ t → NoLine P mode (line ∷ lines)
      by_test later true is = let h : Some line.number ≡ None = sym (here mode line lines is) ∙ none in absurd cc
      by_test later false is = (
        λ p. let h : true ≡ false = sym ((decides mode line.text).1 p) ∙ is in absurd cc,
        later (sym (step mode line lines is) ∙ none),
      )

  none-lines : (mode : Mode) (lines : List RawLine) → NoLine P mode lines → first_told test mode lines ≡ None
  none-lines mode [] none = refl
  none-lines mode (line ∷ lines) none =
      step mode line lines (not-here mode line.text none.0) ∙ none-lines (mode_past mode line.text) lines none.1

  lines-first : (mode : Mode) (lines : List RawLine) (number : ℕ) → first_told test mode lines ≡ Some number → IsFirstIn P mode lines number
  lines-first mode [] number told = absurd cc
  lines-first mode (line ∷ lines) number told = by_test (lines-first (mode_past mode line.text) lines number) (test (found_of mode line.text)) refl
    where
      by_test : (first_told test (mode_past mode line.text) lines ≡ Some number → IsFirstIn P (mode_past mode line.text) lines number) →
          (t : Bool) → test (found_of mode line.text) ≡ t → IsFirstIn P mode (line ∷ lines) number
      by_test later true is =
          let same : Some line.number ≡ Some number = sym (here mode line lines is) ∙ told in
          record { ahead = []; line = line; behind = lines; cut = refl; none_ahead = tt; is = (decides mode line.text).0 is; at = cc }
      by_test later false is =
          let rest = later (sym (step mode line lines is) ∙ told) in
          record {
            ahead = line ∷ rest.ahead;
            line = rest.line;
            behind = rest.behind;
            cut = ap (λ (l : List RawLine). line ∷ l) rest.cut;
            none_ahead = (λ p. let h : true ≡ false = sym ((decides mode line.text).1 p) ∙ is in absurd cc, rest.none_ahead);
            is = rest.is;
            at = rest.at;
          }

  first-found : (mode : Mode) (ahead : List RawLine) (line : RawLine) (behind : List RawLine) → NoLine P mode ahead → P (mode_at mode ahead) line.text →
      first_told test mode (ahead ++ line ∷ behind) ≡ Some line.number
  first-found mode [] line behind none is = here mode line behind ((decides mode line.text).1 is)
  first-found mode (x ∷ ahead) line behind none is =
      step mode x (ahead ++ line ∷ behind) (not-here mode x.text none.0) ∙ first-found (mode_past mode x.text) ahead line behind none.1 is

  first-lines : (mode : Mode) (lines : List RawLine) (number : ℕ) → IsFirstIn P mode lines number → first_told test mode lines ≡ Some number
  first-lines mode lines number is =
      ap (first_told test mode) is.cut ∙ first-found mode is.ahead is.line is.behind is.none_ahead is.is ∙ ap Some is.at

  pub notes-first : (source : SourceFile) → NotesFirst P source (first_told test InHeaders (lines_of source.bytes).lines)
  notes-first source =
      let lines = (lines_of source.bytes).lines in
      record {
        some = λ number. (lines-first InHeaders lines number, first-lines InHeaders lines number);
        none = (lines-none InHeaders lines, none-lines InHeaders lines);
      }

-- What the tests find.

module _ (items_found : ItemsAreFound) where
  nothing-decides : (mode : Mode) (text : List ℕ) → (is_nothing (found_of mode text) ≡ true) ↔ IsNothing mode text
  nothing-decides mode text = (none, nothing (found_of mode text) refl)
    where
      none : is_nothing (found_of mode text) ≡ true → IsNothing mode text
      none test tokens i has =
          let h : is_nothing (found_of mode text) ≡ false = ap is_nothing (item-found items_found mode text i (tokens, has)) in
          let e : true ≡ false = sym test ∙ h in absurd cc

      nothing : (f : Option Found) → found_of mode text ≡ f → IsNothing mode text → is_nothing f ≡ true
      nothing (Some f) is bad = let found = (items_found mode text f).0 is in absurd (bad found.tokens f.item found.is)
      nothing None is bad = refl

  module _ (test : Option Found → Bool) (Q : List Token → Item → Bool) (none : test None ≡ false)
      (tests : (mode : Mode) (text : List ℕ) (f : Found) (is : IsFound mode text f) → test (Some f) ≡ Q is.tokens f.item) where
    some-found : (mode : Mode) (text : List ℕ) (f : Option Found) → found_of mode text ≡ f → test f ≡ true →
        (tokens : List Token) × (i : Item) × (IsItem mode text tokens i × (Q tokens i ≡ true))
    some-found mode text (Some f) is told =
        let found = (items_found mode text f).0 is in
        (found.tokens, f.item, (found.is, sym (tests mode text f found) ∙ told))
    some-found mode text None is told = let h : true ≡ false = sym told ∙ none in absurd cc

    some-decides : (mode : Mode) (text : List ℕ) →
        (test (found_of mode text) ≡ true) ↔ ((tokens : List Token) × (i : Item) × (IsItem mode text tokens i × (Q tokens i ≡ true)))
    some-decides mode text = (
      some-found mode text (found_of mode text) refl,
      λ has.
          let f : Found = record { item = has.1; literals = record { fraction = list_any is_fraction has.0; too_large = list_any is_large has.0 } } in
          let found : IsFound mode text f = record { tokens = has.0; is = has.2.0; literals = refl } in
          ap test ((items_found mode text f).1 found) ∙ tests mode text f found ∙ has.2.1,
    )

  pub lines_are_noted : LinesAreNoted
  lines_are_noted source = (
    notes-first items_found is_nothing IsNothing nothing-decides source,
    notes-first items_found has_many_holes HasManyHoles
        (some-decides has_many_holes (λ tokens i. nat_lt 16 (length (holes_in i))) refl (λ mode text f is. refl)) source,
    notes-first items_found has_fraction HasFraction
        (some-decides has_fraction (λ tokens i. list_any is_fraction tokens) refl (λ mode text f is. ap (λ (l : Literals). l.fraction) is.literals)) source,
    notes-first items_found has_large HasLarge
        (some-decides has_large (λ tokens i. list_any is_large tokens) refl (λ mode text f is. ap (λ (l : Literals). l.too_large) is.literals)) source,
  )
