-- The items of a tagged file's lines: those of the file's lines, with an id where one was lacking.
use Rattle.std.proofs.Common.{◌≡◌, ℕ, ◌+◌, ◌≤◌, ◌<◌, List, [], ◌∷◌, ◌++◌, length, map, Bool, true, false, not, cond, ◌&&◌, ◌||◌, nat_eq, is_none, Option, Some, refl, sym, ap, ◌∙◌, subst, append-nil, arith}
use Rattle.std.specs.List.{list_any}
use Rattle.std.proofs.lemmas.Bool.{true≢false}
use Rattle.std.proofs.lemmas.List.Folds.{list_any-append}
use Rattle.yarn_lines.specs.declared.line.RawLine.{RawLine}
use Rattle.yarn_lines.specs.Lines.{counts, text_of, lines_from}
use Rattle.yarn_expr.specs.declared.token.Token.{Token}
use Rattle.yarn_items.specs.declared.item.Mode.{Mode}
use Rattle.yarn_items.specs.declared.item.Mode.TheVariants.{InHeaders, InBody}
use Rattle.yarn_items.specs.declared.item.Item.{Item}
use Rattle.yarn_items.specs.declared.item.Item.TheVariants as item
use Rattle.yarn_items.specs.Item.{is_cr, IsItem, IsForm, IsLine, IsOffer}
use Rattle.yarn_items.specs.Text.{is_id, has_no_id}
use Rattle.yarn_nodes.specs.Entries.{ItemAt}
use Rattle.yarn_nodes.specs.Finds.{next_mode, holes_in}
use Rattle.yarn_nodes.specs.Lines.{IsItems}
use Rattle.yarn_tag.specs.declared.spoken.Spoken.{Spoken}
use Rattle.yarn_tag.specs.Tagged.{own_id, lacks, id_of}
use Rattle.yarn_tag.proofs.TagLine.{LineSplit, line-split, offer-split, with_id}
use Rattle.yarn_tag.proofs.TagBytes.{nat_eq-self, nat_eq-other}
use Rattle.yarn_tag.proofs.TagCut.{id-is, text_with, FineText, with-put, with-no_cr}
use Rattle.yarn_tag.proofs.TagLines.{AreFine, text_again, LinesPut, no_line, and_line}

-- ---- lines and options among items

abbrev pub spoken_by : ℕ → Item → List Spoken
spoken_by line (item.Line said) = record { line = line; id = own_id said.tags } ∷ []
spoken_by line (item.Offer said asked) = record { line = line; id = own_id said.tags } ∷ []
spoken_by line (item.Command own tags) = []
spoken_by line (item.Game said) = []
spoken_by line (item.FileTag tag) = []
spoken_by line (item.Header header) = []
spoken_by line item.BodyBegins = []
spoken_by line item.NodeEnds = []

abbrev pub spoken_items : List ItemAt → List Spoken
spoken_items [] = []
spoken_items (x ∷ xs) = spoken_by x.line x.item ++ spoken_items xs

-- a line or an option without an id
abbrev pub wants : Item → Bool
wants (item.Line said) = is_none (own_id said.tags)
wants (item.Offer said asked) = is_none (own_id said.tags)
wants (item.Command own tags) = false
wants (item.Game said) = false
wants (item.FileTag tag) = false
wants (item.Header header) = false
wants item.BodyBegins = false
wants item.NodeEnds = false

or-false : (t : Bool) → (t || false) ≡ t
or-false true = refl
or-false false = refl

one-lacks : (line other : ℕ) (own : Option (List ℕ)) (t : Bool) → nat_eq line other ≡ t → (nat_eq line other && is_none own || false) ≡ (t && is_none own)
one-lacks line other own t is = or-false (nat_eq line other && is_none own) ∙ ap (λ (b : Bool). b && is_none own) is

here-lacks : (line : ℕ) (own : Item) → lacks (spoken_by line own) line ≡ wants own
here-lacks line (item.Line said) = one-lacks line line (own_id said.tags) true (nat_eq-self line)
here-lacks line (item.Offer said asked) = one-lacks line line (own_id said.tags) true (nat_eq-self line)
here-lacks line (item.Command own tags) = refl
here-lacks line (item.Game said) = refl
here-lacks line (item.FileTag tag) = refl
here-lacks line (item.Header header) = refl
here-lacks line item.BodyBegins = refl
here-lacks line item.NodeEnds = refl

other-lacks : (line other : ℕ) (own : Item) → nat_eq line other ≡ false → lacks (spoken_by line own) other ≡ false
other-lacks line other (item.Line said) is = one-lacks line other (own_id said.tags) false is
other-lacks line other (item.Offer said asked) is = one-lacks line other (own_id said.tags) false is
other-lacks line other (item.Command own tags) is = refl
other-lacks line other (item.Game said) is = refl
other-lacks line other (item.FileTag tag) is = refl
other-lacks line other (item.Header header) is = refl
other-lacks line other item.BodyBegins is = refl
other-lacks line other item.NodeEnds is = refl

lacks-append : (a b : List Spoken) (line : ℕ) → lacks (a ++ b) line ≡ (lacks a line || lacks b line)
lacks-append a b line = list_any-append (λ s. nat_eq s.line line && is_none s.id) a b

-- ---- numbers of lines rise

abbrev pub Rising : ℕ → List RawLine → Type 0
Rising k [] = Unit {0}
Rising k (line ∷ lines) = (k ≤ line.number) × Rising (line.number + 1) lines

rising-from : (j k : ℕ) (lines : List RawLine) → j ≤ k → Rising k lines → Rising j lines
rising-from j k [] le r = tt
rising-from j k (line ∷ lines) le r = let h = r.0 in (omega (arith, h, le), r.1)

pub rising : (k at : ℕ) (pieces : List (List ℕ)) → Rising k (lines_from k at pieces)
rising k at [] = tt
rising k at (piece ∷ pieces) = of (counts (text_of piece)) refl (rising (k + 1) (at + length piece + 1) pieces)
  where
    of : (t : Bool) → counts (text_of piece) ≡ t → Rising (k + 1) (lines_from (k + 1) (at + length piece + 1) pieces) → Rising k (lines_from k at (piece ∷ pieces))
    of true t later = rw t (omega arith, later)
    of false t later = rw t (rising-from k (k + 1) _ (omega arith) later)

-- no line of these is before
before-lacks : (mode : Mode) (k j : ℕ) (lines : List RawLine) (items : List ItemAt) → Rising k lines → IsItems mode lines items → j < k → lacks (spoken_items items) j ≡ false
before-lacks mode k j [] [] r is less = refl
before-lacks mode k j [] (x ∷ items) r is less = absurd is
before-lacks mode k j (line ∷ lines) [] r is less = absurd is
before-lacks mode k j (line ∷ lines) (x ∷ items) r is less =
    let at = is.0 in
    let from = r.0 in
    let later = before-lacks (next_mode mode x.item) (line.number + 1) j lines items r.1 is.3 (omega (arith, less, from)) in
    lacks-append (spoken_by x.line x.item) (spoken_items items) j
    ∙ ap (λ (t : Bool). t || lacks (spoken_items items) j) (other-lacks x.line j x.item (nat_eq-other x.line j (omega (arith, at, less, from))))
    ∙ later

-- a line of items lacks an id exactly where its item does
abbrev pub Marked : (ℕ → Bool) → List ItemAt → Type 0
Marked lacking [] = Unit {0}
Marked lacking (x ∷ xs) = (lacking x.line ≡ wants x.item) × Marked lacking xs

pub marked : (lacking : ℕ → Bool) (mode : Mode) (k : ℕ) (lines : List RawLine) (items : List ItemAt) → Rising k lines → IsItems mode lines items →
    ((j : ℕ) → k ≤ j → lacking j ≡ lacks (spoken_items items) j) → Marked lacking items
marked lacking mode k [] [] r is same = tt
marked lacking mode k [] (x ∷ items) r is same = absurd is
marked lacking mode k (line ∷ lines) [] r is same = absurd is
marked lacking mode k (line ∷ lines) (x ∷ items) r is same =
    let at = is.0 in
    let from = r.0 in
    let behind = before-lacks (next_mode mode x.item) (line.number + 1) x.line lines items r.1 is.3 (omega (arith, at)) in (
      same x.line (omega (arith, at, from))
          ∙ lacks-append (spoken_by x.line x.item) (spoken_items items) x.line
          ∙ ap (λ (t : Bool). lacks (spoken_by x.line x.item) x.line || t) behind
          ∙ or-false (lacks (spoken_by x.line x.item) x.line)
          ∙ here-lacks x.line x.item,
      marked lacking (next_mode mode x.item) (line.number + 1) lines items r.1 is.3
          (λ j le.
          same j (omega (arith, le, from))
          ∙ lacks-append (spoken_by x.line x.item) (spoken_items items) j
          ∙ ap (λ (t : Bool). t || lacks (spoken_items items) j) (other-lacks x.line j x.item (lower x.line j (omega (arith, at, le))))),
    )
  where
    lower : (a b : ℕ) → a < b → nat_eq a b ≡ false
    lower a b less = nat_eq-flip a b ∙ nat_eq-other b a less
      where
        nat_eq-flip : (m n : ℕ) → nat_eq m n ≡ nat_eq n m
        nat_eq-flip m n = grind arith

-- ---- one item

pub none-own : (tags : List (List ℕ)) → is_none (own_id tags) ≡ has_no_id tags
none-own [] = refl
none-own (t ∷ ts) = of (is_id t) (none-own ts)
  where
    of : (b : Bool) → is_none (own_id ts) ≡ has_no_id ts → is_none (cond b (Some t) (own_id ts)) ≡ not (b || list_any is_id ts)
    of true later = refl
    of false later = later

-- an item with hashtags put behind those of a line or an option
abbrev pub item_with : List (List ℕ) → Item → Item
item_with extra (item.Line said) = item.Line (record { text = said.text; holes = said.holes; tags = said.tags ++ extra })
item_with extra (item.Offer said asked) = item.Offer (record { text = said.text; holes = said.holes; tags = said.tags ++ extra }) asked
item_with extra (item.Command own tags) = item.Command own tags
item_with extra (item.Game said) = item.Game said
item_with extra (item.FileTag tag) = item.FileTag tag
item_with extra (item.Header header) = item.Header header
item_with extra item.BodyBegins = item.BodyBegins
item_with extra item.NodeEnds = item.NodeEnds

pub item-same : (own : Item) → item_with [] own ≡ own
item-same (item.Line said) = ap (λ (ts : List (List ℕ)). item.Line (record { text = said.text; holes = said.holes; tags = ts })) (append-nil said.tags)
item-same (item.Offer said asked) = ap (λ (ts : List (List ℕ)). item.Offer (record { text = said.text; holes = said.holes; tags = ts }) asked) (append-nil said.tags)
item-same (item.Command own tags) = refl
item-same (item.Game said) = refl
item-same (item.FileTag tag) = refl
item-same (item.Header header) = refl
item-same item.BodyBegins = refl
item-same item.NodeEnds = refl

pub mode-same : (mode : Mode) (extra : List (List ℕ)) (own : Item) → next_mode mode (item_with extra own) ≡ next_mode mode own
mode-same mode extra (item.Line said) = refl
mode-same mode extra (item.Offer said asked) = refl
mode-same mode extra (item.Command own tags) = refl
mode-same mode extra (item.Game said) = refl
mode-same mode extra (item.FileTag tag) = refl
mode-same mode extra (item.Header header) = refl
mode-same mode extra item.BodyBegins = refl
mode-same mode extra item.NodeEnds = refl

pub holes-same : (extra : List (List ℕ)) (own : Item) → holes_in (item_with extra own) ≡ holes_in own
holes-same extra (item.Line said) = refl
holes-same extra (item.Offer said asked) = refl
holes-same extra (item.Command own tags) = refl
holes-same extra (item.Game said) = refl
holes-same extra (item.FileTag tag) = refl
holes-same extra (item.Header header) = refl
holes-same extra item.BodyBegins = refl
holes-same extra item.NodeEnds = refl

-- an item that lacks an id may have one
pub record ItemPut (mode : Mode) (text : List ℕ) (tokens : List Token) (own : Item) : Type 0 where
  pub fine : FineText text
  pub is : (n : ℕ) → IsItem mode (text_with n text) tokens (item_with (id_of n ∷ []) own)

from-split : (mode : Mode) (text : List ℕ) (tokens : List Token) (own : Item) (Is : List ℕ → List ℕ → Type 0) → list_any is_cr text ≡ false → LineSplit text Is →
    ((n : ℕ) (l : List ℕ) → Is (id_of n) l → IsForm mode l tokens (item_with (id_of n ∷ []) own)) → ItemPut mode text tokens own
from-split mode text tokens own Is no_cr s form = record {
  fine = fine;
  is = λ n. (with-no_cr n text fine, subst (λ (l : List ℕ). IsForm mode l tokens (item_with (id_of n ∷ []) own)) (sym (with-put n text fine)) (form n _ (s.more (id_of n) (id-is n))));
}
  where
    fine : FineText text
    fine = record { front = s.front; back = s.back; cut = s.cut; at = s.at; some = s.some; rest = s.rest; no_cr = no_cr }

pub item-put : (mode : Mode) (text : List ℕ) (tokens : List Token) (own : Item) → IsItem mode text tokens own → wants own ≡ true → ItemPut mode text tokens own
item-put InBody text tokens (item.Line said) is want =
    from-split InBody text tokens (item.Line said) (λ id l. IsLine l tokens (with_id said id)) is.0
    (line-split text tokens said is.1 (sym (none-own said.tags) ∙ want)) (λ n l h. h)
item-put InBody text tokens (item.Offer said asked) is want =
    from-split InBody text tokens (item.Offer said asked) (λ id l. IsOffer l tokens (with_id said id) asked) is.0
    (offer-split text tokens said asked is.1 (sym (none-own said.tags) ∙ want)) (λ n l h. h)
item-put InHeaders text tokens (item.Line said) is want = absurd is.1
item-put InHeaders text tokens (item.Offer said asked) is want = absurd is.1
item-put mode text tokens (item.Command own tags) is want = absurd (true≢false (sym want))
item-put mode text tokens (item.Game said) is want = absurd (true≢false (sym want))
item-put mode text tokens (item.FileTag tag) is want = absurd (true≢false (sym want))
item-put mode text tokens (item.Header header) is want = absurd (true≢false (sym want))
item-put mode text tokens item.BodyBegins is want = absurd (true≢false (sym want))
item-put mode text tokens item.NodeEnds is want = absurd (true≢false (sym want))

-- ---- all items

-- the text of a line that lacks an id may have one
pub are-fine : (lacking : ℕ → Bool) (mode : Mode) (k at : ℕ) (pieces : List (List ℕ)) (items : List ItemAt) → IsItems mode (lines_from k at pieces) items → Marked lacking items →
    AreFine lacking k pieces
are-fine lacking mode k at [] items is m = tt
are-fine lacking mode k at (piece ∷ pieces) items is m =
    by_counts (counts (text_of piece)) refl items is m (λ mode' items' is' m'. are-fine lacking mode' (k + 1) (at + length piece + 1) pieces items' is' m')
  where
    by_counts : (t : Bool) → counts (text_of piece) ≡ t → (xs : List ItemAt) → IsItems mode (lines_from k at (piece ∷ pieces)) xs → Marked lacking xs →
        ((mode' : Mode) (items' : List ItemAt) → IsItems mode' (lines_from (k + 1) (at + length piece + 1) pieces) items' → Marked lacking items' → AreFine lacking (k + 1) pieces) →
        AreFine lacking k (piece ∷ pieces)
    by_counts true t [] all marks later = absurd (rw t at all)
    by_counts true t (x ∷ xs) all marks later =
        let h = rw t at all in
        let number : x.line ≡ k = h.0 in (
          λ on. (item-put mode (text_of piece) h.2.0 x.item h.2.1
              (sym marks.0 ∙ ap lacking number ∙ ap (λ (c : Bool). c && lacking k) (sym t) ∙ on)).fine,
          later (next_mode mode x.item) xs h.3 marks.1,
        )
    by_counts false t xs all marks later =
        (λ on. absurd (true≢false (sym on ∙ ap (λ (c : Bool). c && lacking k) t)), later mode xs (rw t at all) marks)

-- the hashtags that are put on each line
abbrev pub put_on : (ℕ → Bool) → (ℕ → ℕ) → ℕ → List (List ℕ)
put_on lacking numbers line = cond (lacking line) (id_of (numbers line) ∷ []) []

abbrev pub item_again : (ℕ → List (List ℕ)) → ItemAt → ItemAt
item_again extra x = record { line = x.line; indent = x.indent; item = item_with (extra x.line) x.item }

-- a text is an item, and another text that item with hashtags
abbrev pub ItemTo : Mode → List ℕ → List ℕ → Item → Item → Type 0
ItemTo mode text other own again = (tokens : List Token) → IsItem mode text tokens own → IsItem mode other tokens again

module _ (lacking : ℕ → Bool) (numbers : ℕ → ℕ) where
  extra : ℕ → List (List ℕ)
  extra = put_on lacking numbers

  pub one-again : (mode : Mode) (a : RawLine) (other : List ℕ) (x : ItemAt) → x.line ≡ a.number → lacking x.line ≡ wants x.item → other ≡ text_again lacking numbers a →
      ItemTo mode a.text other x.item (item_with (put_on lacking numbers x.line) x.item)
  one-again mode a other x at mark is tokens item_is = by_lacking (lacking a.number) refl
    where
      by_lacking : (t : Bool) → lacking a.number ≡ t → IsItem mode other tokens (item_with (put_on lacking numbers x.line) x.item)
      by_lacking true t =
          let p = item-put mode a.text tokens x.item item_is (sym mark ∙ ap lacking at ∙ t) in
          let put_here : put_on lacking numbers x.line ≡ id_of (numbers a.number) ∷ [] =
          ap (put_on lacking numbers) at ∙ ap (λ (b : Bool). cond b (id_of (numbers a.number) ∷ []) []) t in
          subst (λ (l : List ℕ). IsItem mode l tokens (item_with (put_on lacking numbers x.line) x.item))
          (sym (is ∙ ap (λ (b : Bool). cond b (text_with (numbers a.number) a.text) a.text) t))
          (subst (λ (ts : List (List ℕ)). IsItem mode (text_with (numbers a.number) a.text) tokens (item_with ts x.item)) (sym put_here) (p.is (numbers a.number)))
      by_lacking false t =
          let put_here : put_on lacking numbers x.line ≡ [] =
          ap (put_on lacking numbers) at ∙ ap (λ (b : Bool). cond b (id_of (numbers a.number) ∷ []) []) t in
          subst (λ (l : List ℕ). IsItem mode l tokens (item_with (put_on lacking numbers x.line) x.item))
          (sym (is ∙ ap (λ (b : Bool). cond b (text_with (numbers a.number) a.text) a.text) t))
          (subst (λ (i : Item). IsItem mode a.text tokens i) (sym (ap (λ (ts : List (List ℕ)). item_with ts x.item) put_here ∙ item-same x.item)) item_is)

  pub items-again : (mode : Mode) {lines others : List RawLine} (items : List ItemAt) → LinesPut lacking numbers lines others → IsItems mode lines items → Marked lacking items →
      IsItems mode others (map (item_again (put_on lacking numbers)) items)
  items-again mode [] no_line is m = tt
  items-again mode (x ∷ items) no_line is m = absurd is
  items-again mode [] (and_line number indent text more) is m = absurd is
  items-again mode (x ∷ items) (and_line {a} {b} {before} {after} number indent text more) is m = (
    is.0 ∙ sym number,
    is.1 ∙ sym indent,
    (is.2.0, one-again mode a b.text x is.0 m.0 text is.2.0 is.2.1),
    subst (λ (md : Mode). IsItems md after (map (item_again (put_on lacking numbers)) items)) (sym (mode-same mode (put_on lacking numbers x.line) x.item))
        (items-again (next_mode mode x.item) items more is.3 m.1),
  )
