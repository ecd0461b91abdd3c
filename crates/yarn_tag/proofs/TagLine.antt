-- A line or an option with an id behind its text is the same line or option with one more hashtag.
use Rattle.std.proofs.Common.{◌≡◌, ℕ, List, [], ◌∷◌, ◌++◌, length, Bool, true, false, not, ◌&&◌, ◌||◌, nat_eq, Option, codes, ◌⊎◌, inl, inr, refl, sym, ap, ◌∙◌, subst, append_assoc}
use Rattle.std.specs.List.{list_any}
use Rattle.std.specs.Str.{bytes_eq}
use Rattle.std.proofs.lemmas.Bool.{true≢false, and_right}
use Rattle.std.proofs.lemmas.List.{append_cancel_right}
use Rattle.yarn_lines.specs.Lines.{begins_with}
use Rattle.yarn_expr.specs.declared.token.Token.{Token}
use Rattle.yarn_expr.specs.declared.tree.Expr.{Expr}
use Rattle.yarn_items.specs.declared.item.Said.{Said}
use Rattle.yarn_items.specs.Content.{ToEnd}
use Rattle.yarn_items.specs.Item.{IsLine, IsOffer, IsCondition, no_condition, condition, is_option, is_command, is_cr}
use Rattle.yarn_items.specs.Text.{Piece, Pieces, Tags, AreHoles, kept_from, table_text, trimmed, is_id, has_no_id, has_fine_ids}
use Rattle.yarn_items.proofs.ContentLemmas.{end-split}
use Rattle.yarn_items.proofs.TrailingLemmas.{trimmed-more}
use Rattle.yarn_tree.specs.Scan.{end_of}
use Rattle.yarn_tag.proofs.TagEnds.{text_front, text-passed, arrow-passed, condition-passed}
use Rattle.yarn_tag.proofs.TagText.{end-at, ends_solid, ends_solid-behind, IsShut, shut, shut-behind, IsRest, gap, put, IsSolid, put_tags, TagSplit, split-tags, front-empty}
use Rattle.yarn_tag.proofs.TagPieces.{Quiet, quiet-same, quiet-space, Onto, pieces-onto, end-onto, Shortened, shortened}

-- ---- text and hashtags, with nothing between

-- pieces and hashtags before an id
pub record TextWith (bytes : List ℕ) (pieces : List Piece) (tags : List (List ℕ)) : Type 0 where
  pub own : List Piece
  pub left : List ℕ
  pub read : Pieces bytes own left
  pub tagged : Tags left tags
  pub same : table_text own ≡ table_text pieces
  pub holes : (ts : List Token) (es : List Expr) → AreHoles pieces ts es → AreHoles own ts es

-- the text up to its end, and what it is with an id there
pub record TextSplit (bytes : List ℕ) (pieces : List Piece) (tags : List (List ℕ)) : Type 0 where
  pub front : List ℕ
  pub back : List ℕ
  pub cut : bytes ≡ front ++ back
  pub rest : IsRest back
  pub ends : IsShut front
  pub some : (table_text pieces ≡ [] → ⊥) → front ≡ [] → ⊥
  pub more : (id : List ℕ) → IsSolid id → TextWith (front ++ put id back) pieces (tags ++ id ∷ [])
  pub passed : text_front bytes ≡ front ++ text_front back

-- pieces are passed
pieces-passed : {bytes rest : List ℕ} {pieces : List Piece} (front : List ℕ) → Pieces bytes pieces rest → bytes ≡ front ++ rest →
    text_front bytes ≡ front ++ text_front rest
pieces-passed {bytes} {rest} {pieces} front read cut =
    let p = text-passed read in
    p.passed ∙ ap (λ (l : List ℕ). l ++ text_front rest) (append_cancel_right p.front front rest (sym p.cut ∙ cut))

-- before hashtags
with_tags : {bytes rest : List ℕ} {pieces : List Piece} (tags : List (List ℕ)) → Pieces bytes pieces rest → (s : TagSplit rest tags) →
    (b : ℕ) (more : List ℕ) → s.front ≡ b ∷ more → ends_solid s.front ≡ true → TextSplit bytes pieces tags
with_tags {bytes} {rest} {pieces} tags read s b more first solid = record {
  front = o.front ++ s.front;
  back = s.back;
  cut = o.cut ∙ ap (λ (l : List ℕ). o.front ++ l) s.cut ∙ sym (append_assoc o.front s.front s.back);
  rest = s.rest;
  ends = shut (ends_solid-behind o.front s.front solid);
  some = λ full e. true≢false (sym (ends_solid-behind o.front s.front solid) ∙ ap ends_solid e);
  more = with_id;
  passed =
      pieces-passed o.front read o.cut
      ∙ ap (λ (l : List ℕ). o.front ++ l) s.passed
      ∙ sym (append_assoc o.front s.front (text_front s.back));
}
  where
    quiet : (back other : List ℕ) → Quiet (s.front ++ back) (s.front ++ other)
    quiet back other = subst (λ (l : List ℕ). Quiet (l ++ back) (l ++ other)) (sym first) (quiet-same b (more ++ back) (more ++ other))

    onto : (other : List ℕ) → Onto bytes rest (s.front ++ other) pieces
    onto other = pieces-onto read (s.front ++ other) (subst (λ (l : List ℕ). Quiet l (s.front ++ other)) (sym s.cut) (quiet s.back other))

    o : Onto bytes rest (s.front ++ []) pieces
    o = onto []

    same_front : (other : List ℕ) → (onto other).front ≡ o.front
    same_front other = append_cancel_right (onto other).front o.front rest (sym (onto other).cut ∙ o.cut)

    with_id : (id : List ℕ) → IsSolid id → TextWith ((o.front ++ s.front) ++ put id s.back) pieces (tags ++ id ∷ [])
    with_id id is = record {
      own = pieces;
      left = s.front ++ put id s.back;
      read =
          subst (λ (l : List ℕ). Pieces l pieces (s.front ++ put id s.back))
          (ap (λ (f : List ℕ). f ++ (s.front ++ put id s.back)) (same_front (put id s.back)) ∙ sym (append_assoc o.front s.front (put id s.back)))
          (onto (put id s.back)).read;
      tagged = s.more id is;
      same = refl;
      holes = λ ts es h. h;
    }

-- where there are none
without_tags : {bytes rest : List ℕ} {pieces : List Piece} (tags : List (List ℕ)) → tags ≡ [] → Pieces bytes pieces rest → IsRest rest → TextSplit bytes pieces tags
without_tags {bytes} {rest} {pieces} tags none read is = record {
  front = s.front;
  back = s.left;
  cut = s.cut;
  rest = s.rest;
  ends = s.ends;
  some = λ full e. full (texts ∙ ap table_text (s.none e));
  more = with_id;
  passed = pieces-passed s.front s.read s.cut;
}
  where
    s : Shortened bytes pieces
    s = shortened read is

    texts : table_text pieces ≡ table_text s.own
    texts = ap trimmed (s.kept 0) ∙ trimmed-more (kept_from 0 s.own) s.blanks s.blank

    onto : (other : List ℕ) → Onto bytes s.left (32 ∷ other) s.own
    onto other = pieces-onto s.read (32 ∷ other) (quiet-space s.left other)

    same_front : (other : List ℕ) → (onto other).front ≡ s.front
    same_front other = append_cancel_right (onto other).front s.front s.left (sym (onto other).cut ∙ s.cut)

    with_id : (id : List ℕ) → IsSolid id → TextWith (s.front ++ put id s.left) pieces (tags ++ id ∷ [])
    with_id id solid =
        let other : List ℕ = 35 ∷ (id ++ (gap s.left ++ s.left)) in
        record {
          own = s.own;
          left = put id s.left;
          read = subst (λ (f : List ℕ). Pieces (f ++ put id s.left) s.own (put id s.left)) (same_front other) (onto other).read;
          tagged = subst (λ (ts : List (List ℕ)). Tags (put id s.left) (ts ++ id ∷ [])) (sym none) (put_tags id s.left solid s.rest);
          same = sym texts;
          holes = s.holes;
        }

first_of : (front : List ℕ) → ends_solid front ≡ true → (b : ℕ) × (more : List ℕ) × (front ≡ b ∷ more)
first_of [] is = absurd (true≢false (sym is))
first_of (b ∷ more) is = (b, more, refl)

pub text-split : {bytes rest : List ℕ} {pieces : List Piece} {tags : List (List ℕ)} → Pieces bytes pieces rest → Tags rest tags → TextSplit bytes pieces tags
text-split {bytes} {rest} {pieces} {tags} read tagged = of (split-tags tagged)
  where
    of : TagSplit rest tags → TextSplit bytes pieces tags
    of s = by_end s.ends
      where
        by_end : ((s.front ≡ []) × (tags ≡ [])) ⊎ (ends_solid s.front ≡ true) → TextSplit bytes pieces tags
        by_end (inl e) = without_tags tags e.1 read (subst (λ (ts : List (List ℕ)). Tags rest ts) e.1 tagged)
        by_end (inr e) = let f = first_of s.front e in with_tags tags read s f.0 f.1 f.2 e

-- ---- lines and options

-- one more hashtag
abbrev pub with_id : Said → List ℕ → Said
with_id said id = record { text = said.text; holes = said.holes; tags = said.tags ++ id ∷ [] }

or-none : (a b : Bool) → not (a || b) ≡ true → (a ≡ false) × (not b ≡ true)
or-none true b is = absurd (true≢false (sym is))
or-none false b is = (refl, is)

-- at most one hashtag is an id, where one stands behind others that are none
fine-ids : (tags : List (List ℕ)) (id : List ℕ) → has_no_id tags ≡ true → is_id id ≡ true → bytes_eq id (codes "line:") ≡ false → has_fine_ids (tags ++ id ∷ []) ≡ true
fine-ids [] id none is own = rw (is, own) refl
fine-ids (t ∷ ts) id none is own =
    let parts = or-none (is_id t) (list_any is_id ts) none in
    let first = parts.0 in
    rw first (fine-ids ts id parts.1 is own)

-- an id that may stand behind hashtags
pub record IsId (id : List ℕ) : Type 0 where
  pub solid : IsSolid id
  pub is : is_id id ≡ true
  pub own : bytes_eq id (codes "line:") ≡ false
  pub no_cr : list_any is_cr id ≡ false

pub begins-two : (a b : ℕ) (front back other : List ℕ) → nat_eq 32 b ≡ false → (front ≡ [] → ⊥) → begins_with (a ∷ b ∷ []) (front ++ back) ≡ false →
    begins_with (a ∷ b ∷ []) (front ++ 32 ∷ other) ≡ false
begins-two a b [] back other space some is = absurd (some refl)
begins-two a b (c ∷ []) back other space some is = and_right (nat_eq c a) _ (ap (λ (t : Bool). t && true) space)
begins-two a b (c ∷ d ∷ front) back other space some is = is

-- the text of a line or an option up to its end, and what it is with an id there
pub record LineSplit (text : List ℕ) (Is : List ℕ → List ℕ → Type 0) : Type 0 where
  pub front : List ℕ
  pub back : List ℕ
  pub cut : text ≡ front ++ back
  pub rest : IsRest back
  pub ends : IsShut front
  pub some : front ≡ [] → ⊥
  pub more : (id : List ℕ) → IsId id → Is id (front ++ put id back)
  pub at : end_of text ≡ length front

pub line-split : (text : List ℕ) (tokens : List Token) (said : Said) → IsLine text tokens said → has_no_id said.tags ≡ true →
    LineSplit text (λ id l. IsLine l tokens (with_id said id))
line-split text tokens said h lacks = record {
  front = s.front;
  back = s.back;
  cut = s.cut;
  rest = s.rest;
  ends = s.ends;
  some = some;
  more = more;
  at = end-at text s.front s.back s.rest s.ends s.passed;
}
  where
    s : TextSplit text h.pieces said.tags
    s = text-split h.read h.tagged

    some : s.front ≡ [] → ⊥
    some = s.some (λ e. h.some (h.own ∙ e))

    more : (id : List ℕ) → IsId id → IsLine (s.front ++ put id s.back) tokens (with_id said id)
    more id is =
        let w = s.more id is.solid in
        record {
          pieces = w.own;
          rest = w.left;
          read = w.read;
          own = h.own ∙ sym w.same;
          held = w.holes tokens said.holes h.held;
          tagged = w.tagged;
          some = h.some;
          no_end = h.no_end;
          ids = fine-ids said.tags id lacks is.is is.own;
          no_option = begins-two 45 62 s.front s.back _ refl some (subst (λ (l : List ℕ). is_option l ≡ false) s.cut h.no_option);
          no_command = begins-two 60 60 s.front s.back _ refl some (subst (λ (l : List ℕ). is_command l ≡ false) s.cut h.no_command);
        }

-- an option without a condition
plain-offer : (text : List ℕ) (tokens : List Token) (said : Said) (asked : Option Expr) (h : IsOffer text tokens said asked) → has_no_id said.tags ≡ true →
    Tags h.rest said.tags → ((behind : List ℕ) → IsCondition behind h.of_condition asked behind) → LineSplit text (λ id l. IsOffer l tokens (with_id said id) asked)
plain-offer text tokens said asked h lacks tagged none = record {
  front = codes "->" ++ s.front;
  back = s.back;
  cut = h.split ∙ ap (λ (l : List ℕ). codes "->" ++ l) s.cut;
  rest = s.rest;
  ends = shut-behind (codes "->") refl s.ends;
  some = λ e. absurd cc;
  more = more;
  at =
      end-at text (codes "->" ++ s.front) s.back s.rest (shut-behind (codes "->") refl s.ends)
      (ap text_front h.split ∙ arrow-passed h.bytes ∙ ap (λ (l : List ℕ). codes "->" ++ l) s.passed);
}
  where
    s : TextSplit h.bytes h.pieces said.tags
    s = text-split h.read tagged

    more : (id : List ℕ) → IsId id → IsOffer ((codes "->" ++ s.front) ++ put id s.back) tokens (with_id said id) asked
    more id is =
        let w = s.more id is.solid in
        record {
          bytes = s.front ++ put id s.back;
          split = refl;
          pieces = w.own;
          rest = w.left;
          read = w.read;
          own = h.own ∙ sym w.same;
          of_text = h.of_text;
          held = w.holes h.of_text said.holes h.held;
          of_condition = h.of_condition;
          behind = w.left;
          conditioned = none w.left;
          all = h.all;
          tagged = w.tagged;
          some = h.some;
          ids = fine-ids said.tags id lacks is.is is.own;
        }

-- an option with one
asked-offer : (text : List ℕ) (tokens : List Token) (said : Said) (asked : Option Expr) (h : IsOffer text tokens said asked) → has_no_id said.tags ≡ true →
    (inside bytes : List ℕ) → h.rest ≡ codes "<<" ++ bytes → ToEnd false false bytes inside h.behind →
    ((other : List ℕ) → IsCondition (codes "<<" ++ (inside ++ 62 ∷ 62 ∷ other)) h.of_condition asked other) →
    LineSplit text (λ id l. IsOffer l tokens (with_id said id) asked)
asked-offer text tokens said asked h lacks inside bytes opens to_end is_asked = of (split-tags h.tagged)
  where
    of : TagSplit h.behind said.tags → LineSplit text (λ id l. IsOffer l tokens (with_id said id) asked)
    of s = record {
      front = before ++ s.front;
      back = s.back;
      cut = cut;
      rest = s.rest;
      ends = shut-behind before (ends_solid-behind (codes "->" ++ (o.front ++ (60 ∷ 60 ∷ inside))) (62 ∷ 62 ∷ []) refl) (front-empty s.front (ends s.ends));
      some = λ e. absurd cc;
      more = more;
      at =
          end-at text (before ++ s.front) s.back s.rest
          (shut-behind before (ends_solid-behind (codes "->" ++ (o.front ++ (60 ∷ 60 ∷ inside))) (62 ∷ 62 ∷ []) refl) (front-empty s.front (ends s.ends))) passed;
    }
      where
        ends : ((s.front ≡ []) × (said.tags ≡ [])) ⊎ (ends_solid s.front ≡ true) → (s.front ≡ []) ⊎ (ends_solid s.front ≡ true)
        ends (inl e) = inl e.0
        ends (inr e) = inr e

        condition_before : List ℕ → List ℕ
        condition_before other = codes "<<" ++ (inside ++ 62 ∷ 62 ∷ other)

        whole : h.rest ≡ codes "<<" ++ (inside ++ 62 ∷ 62 ∷ h.behind)
        whole = opens ∙ ap (λ (l : List ℕ). codes "<<" ++ l) (end-split to_end)

        onto : (other : List ℕ) → Onto h.bytes h.rest (60 ∷ other) h.pieces
        onto other = pieces-onto h.read (60 ∷ other) (subst (λ (l : List ℕ). Quiet l (60 ∷ other)) (sym whole) (quiet-same 60 (60 ∷ (inside ++ 62 ∷ 62 ∷ h.behind)) other))

        o : Onto h.bytes h.rest (60 ∷ []) h.pieces
        o = onto []

        same_front : (other : List ℕ) → (onto other).front ≡ o.front
        same_front other = append_cancel_right (onto other).front o.front h.rest (sym (onto other).cut ∙ o.cut)

        before : List ℕ
        before = (codes "->" ++ (o.front ++ (60 ∷ 60 ∷ inside))) ++ 62 ∷ 62 ∷ []

        -- the condition and what follows it
        spread : (other : List ℕ) → (before ++ other) ≡ codes "->" ++ (o.front ++ (60 ∷ 60 ∷ (inside ++ 62 ∷ 62 ∷ other)))
        spread other =
            append_assoc (codes "->" ++ (o.front ++ (60 ∷ 60 ∷ inside))) (62 ∷ 62 ∷ []) other
            ∙ ap (λ (l : List ℕ). codes "->" ++ l) (append_assoc o.front (60 ∷ 60 ∷ inside) (62 ∷ 62 ∷ other))

        passed : text_front text ≡ (before ++ s.front) ++ text_front s.back
        passed =
            ap text_front h.split
            ∙ arrow-passed h.bytes
            ∙ ap (λ (l : List ℕ). codes "->" ++ l)
            (pieces-passed o.front h.read o.cut
            ∙ ap (λ (l : List ℕ). o.front ++ l)
            (ap text_front opens ∙ condition-passed to_end
            ∙ ap (λ (l : List ℕ). 60 ∷ 60 ∷ (inside ++ 62 ∷ 62 ∷ l)) s.passed))
            ∙ sym (spread (s.front ++ text_front s.back))
            ∙ sym (append_assoc before s.front (text_front s.back))

        cut : text ≡ (before ++ s.front) ++ s.back
        cut =
            h.split
            ∙ ap (λ (l : List ℕ). codes "->" ++ l) (o.cut ∙ ap (λ (l : List ℕ). o.front ++ l) (whole ∙ ap (λ (l : List ℕ). 60 ∷ 60 ∷ (inside ++ 62 ∷ 62 ∷ l)) s.cut))
            ∙ sym (spread (s.front ++ s.back))
            ∙ sym (append_assoc before s.front s.back)

        more : (id : List ℕ) → IsId id → IsOffer ((before ++ s.front) ++ put id s.back) tokens (with_id said id) asked
        more id is =
            let other : List ℕ = s.front ++ put id s.back in
            let behind_text : List ℕ = 60 ∷ (inside ++ 62 ∷ 62 ∷ other) in
            record {
              bytes = o.front ++ (60 ∷ behind_text);
              split = append_assoc before s.front (put id s.back) ∙ spread other;
              pieces = h.pieces;
              rest = 60 ∷ behind_text;
              read = subst (λ (f : List ℕ). Pieces (f ++ (60 ∷ behind_text)) h.pieces (60 ∷ behind_text)) (same_front behind_text) (onto behind_text).read;
              own = h.own;
              of_text = h.of_text;
              held = h.held;
              of_condition = h.of_condition;
              behind = other;
              conditioned = is_asked other;
              all = h.all;
              tagged = s.more id is.solid;
              some = h.some;
              ids = fine-ids said.tags id lacks is.is is.own;
            }

pub offer-split : (text : List ℕ) (tokens : List Token) (said : Said) (asked : Option Expr) → IsOffer text tokens said asked → has_no_id said.tags ≡ true →
    LineSplit text (λ id l. IsOffer l tokens (with_id said id) asked)
offer-split text tokens said asked h lacks = of h.conditioned refl refl refl refl
  where
    of : {rest behind : List ℕ} {ts : List Token} {a : Option Expr} → IsCondition rest ts a behind → rest ≡ h.rest → behind ≡ h.behind → ts ≡ h.of_condition → a ≡ asked →
        LineSplit text (λ id l. IsOffer l tokens (with_id said id) asked)
    of (no_condition {rest}) at to ts is =
        plain-offer text tokens said asked h lacks (subst (λ (l : List ℕ). Tags l said.tags) (sym to ∙ at) h.tagged)
        (λ l. subst (λ (x : List Token). IsCondition l x asked l) ts (subst (λ (x : Option Expr). IsCondition l [] x l) is no_condition))
    of (condition {bytes} {content} {rest} {tokens = own} {e} has command) at to ts is =
        asked-offer text tokens said asked h lacks has.inside has.bytes (sym at ∙ has.split) (subst (λ (l : List ℕ). ToEnd false false has.bytes has.inside l) to has.to_end)
        (λ other.
        subst (λ (x : List Token). IsCondition (codes "<<" ++ (has.inside ++ 62 ∷ 62 ∷ other)) x asked other) ts
        (subst (λ (x : Option Expr). IsCondition (codes "<<" ++ (has.inside ++ 62 ∷ 62 ∷ other)) own x other) is
        (condition
        (record { bytes = has.inside ++ 62 ∷ 62 ∷ other; inside = has.inside; split = refl; to_end = end-onto has.to_end other; own = has.own })
        command)))
