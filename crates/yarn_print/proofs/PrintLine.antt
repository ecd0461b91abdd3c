-- A line that is said is printed as a line that is it again.
use Rattle.std.proofs.Common.{◌≡◌, ℕ, List, [], ◌++◌, Bool, false, codes, refl, sym, ap, subst, ◌∙◌}
use Rattle.yarn_expr.specs.declared.token.Token.{Token}
use Rattle.yarn_lines.specs.Lines.{begins_with}
use Rattle.yarn_items.specs.declared.item.Mode.TheVariants.{InBody}
use Rattle.yarn_items.specs.declared.item.Said.{Said}
use Rattle.yarn_items.specs.declared.item.Item.{Item}
use Rattle.yarn_items.specs.declared.item.Item.TheVariants as item
use Rattle.yarn_items.specs.Text.{Piece, trimmed, kept_from}
use Rattle.yarn_items.specs.Item.{IsLine, IsForm}
use Rattle.yarn_print.specs.Print.{text_printed, tags_text}
use Rattle.yarn_print.proofs.Quiet.{OnlyBreaks, Fits, fits-append}
use Rattle.yarn_print.proofs.Tight.{IsTight, no_byte, solid, tight-trimmed, trimmed-tight, Solid}
use Rattle.yarn_print.proofs.Cuts.{fits-trimmed}
use Rattle.yarn_print.proofs.PrintText.{IsTable, table-trimmed, from_pieces, FromPieces, ReadBack, read_back, fits-printed, solid-printed, begins_marked, unmarked-printed, no_comment, no_command, no_option}
use Rattle.yarn_print.proofs.PrintTags.{AreFine, fine-tags, free_tags, unmarked_tags, printed_tags, solid_with_tags, tags_low, fits-tags}

-- a line is that item, and stands on a line by itself
pub record IsAgain (test : ℕ → Bool) (line : List ℕ) (own : Item) : Type 0 where
  pub tokens : List Token
  pub form : IsForm InBody line tokens own
  pub fits : Fits test line
  pub solid : Solid line
  pub no_comment : begins_with (codes "//") line ≡ false

-- what is known of a text that string tables have of some line
pub record IsSaid (test : ℕ → Bool) (said : Said) : Type 0 where
  pub table : IsTable test 0 said.text said.holes
  pub fits : Fits test said.text
  pub tight : IsTight said.text

pub tight-solid : {text : List ℕ} → IsTight text → (text ≡ [] → ⊥) → Solid text
tight-solid no_byte some = absurd (some refl)
tight-solid (solid one two) some = record { begins = one; ends = two }

pub said-from : (test : ℕ → Bool) (said : Said) (pieces : List Piece) (rest : List ℕ) → said.text ≡ trimmed (kept_from 0 pieces) → FromPieces test [] 0 pieces said.holes rest → IsSaid test said
said-from test said pieces rest own from = record {
  table = subst (λ l. IsTable test 0 l said.holes) (sym own) (table-trimmed from.table);
  fits = subst (Fits test) (sym own) (fits-trimmed test (kept_from 0 pieces) from.fits);
  tight = subst IsTight (sym own) (tight-trimmed (kept_from 0 pieces));
}

pub again-line : (test : ℕ → Bool) → OnlyBreaks test → (line : List ℕ) (tokens : List Token) (said : Said) → Fits test line → IsLine line tokens said →
    IsAgain test (text_printed false said.text said.holes ++ tags_text said.tags) (item.Line said)
again-line test only line tokens said whole is = of (read_back (tags_text said.tags) own.table (free_tags said.tags))
  where
    from : FromPieces test [] 0 is.pieces said.holes is.rest
    from = from_pieces test only [] 0 is.read is.held (tags_low is.tagged) whole

    own : IsSaid test said
    own = said-from test said is.pieces is.rest is.own from

    fine : AreFine said.tags
    fine = fine-tags is.tagged

    unmarked : begins_marked (text_printed false said.text said.holes ++ tags_text said.tags) ≡ false
    unmarked = unmarked-printed (tags_text said.tags) own.table (unmarked_tags said.tags)

    of : ReadBack 0 said.text said.holes (tags_text said.tags) → IsAgain test (text_printed false said.text said.holes ++ tags_text said.tags) (item.Line said)
    of r = record {
      tokens = r.tokens;
      form = record {
        pieces = r.pieces;
        rest = tags_text said.tags;
        read = r.read;
        own = sym (ap trimmed r.own ∙ trimmed-tight own.tight);
        held = r.held;
        tagged = printed_tags fine;
        some = is.some;
        no_end = is.no_end;
        ids = is.ids;
        no_option = no_option (tags_text said.tags) own.table is.some (unmarked_tags said.tags);
        no_command = no_command (text_printed false said.text said.holes ++ tags_text said.tags) unmarked;
      };
      fits = fits-append test (text_printed false said.text said.holes) (tags_text said.tags) (fits-printed only own.table own.fits) (fits-tags test only is.tagged from.behind);
      solid = solid_with_tags (text_printed false said.text said.holes) (solid-printed own.table (tight-solid own.tight is.some)) fine;
      no_comment = no_comment (text_printed false said.text said.holes ++ tags_text said.tags) unmarked;
    }
