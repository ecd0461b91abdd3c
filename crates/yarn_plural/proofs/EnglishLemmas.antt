-- The text of the default table is read as the default table.
use Rattle.std.proofs.Common.{◌≡◌, ℕ, zero, suc, List, [], ◌∷◌, true, Option, None, Some, refl, ap, subst}
use Rattle.std.specs.Prelude.{Ok, IsUtf8, codes}
use Rattle.yarn_plural.specs.declared.rule.Category.TheVariants as category
use Rattle.yarn_plural.specs.declared.table.Form.TheVariants as form
use Rattle.yarn_plural.specs.declared.rule.Operand.TheVariants as operand
use Rattle.yarn_plural.specs.declared.line.Line.{Line}
use Rattle.yarn_plural.specs.declared.line.Line.TheVariants.{Begins, Gives}
use Rattle.yarn_plural.specs.declared.token.Token.{Token}
use Rattle.yarn_plural.specs.Lines.{without_end}
use Rattle.yarn_plural.specs.Tokens.{is_blank, past, Spells}
use Rattle.yarn_plural.specs.Rules.{IsLine}
use Rattle.yarn_plural.specs.Reading.{ReadsPlural}
use Rattle.yarn_plural.specs.English.{english_text, english_table, relation, rule_of_both, rule_of_end, rule_of_others}
use Rattle.yarn_plural.specs.Steps.{Next, next_of, meaning_of}
use Rattle.yarn_plural.proofs.TokenLemmas.{next_of-only}
use Rattle.yarn_plural.proofs.MeaningLemmas.{meaning_of-only}

abbrev with_token : Token → Option (List Token) → Option (List Token)
with_token t None = None
with_token t (Some ts) = Some (t ∷ ts)

abbrev behind : (List ℕ → Option (List Token)) → Option Next → Option (List Token)
behind later None = None
behind later (Some next) = with_token next.0 (later next.1)

abbrev scan_from : (List ℕ → Option (List Token)) → List ℕ → Option (List Token)
scan_from later [] = Some []
scan_from later (b ∷ bytes) = behind later (next_of (b ∷ bytes))

-- the tokens of a text, where there are fewer than so many
abbrev scan : ℕ → List ℕ → Option (List Token)
scan zero text = None
scan (suc n) text = scan_from (scan n) (past is_blank text)

abbrev Scans : ℕ → Type 0
Scans n = (text : List ℕ) (ts : List Token) → scan n text ≡ Some ts → Spells text ts

later_is : (text : List ℕ) (next : Next) (later : Option (List Token)) (ts : List Token) → next_of (past is_blank text) ≡ Some next →
    ((us : List Token) → later ≡ Some us → Spells next.1 us) → with_token next.0 later ≡ Some ts → Spells text ts
later_is text next None ts is spells e = absurd cc
later_is text next (Some us) ts is spells e =
    let same : next.0 ∷ us ≡ ts = cc in
    subst (Spells text) same (next.1, next_of-only (past is_blank text) next.0 next.1 is, spells us refl)

next_is : (n : ℕ) → Scans n → (text : List ℕ) (found : Option Next) (ts : List Token) → next_of (past is_blank text) ≡ found → behind (scan n) found ≡ Some ts → Spells text ts
next_is n scans text None ts is e = absurd cc
next_is n scans text (Some next) ts is e = later_is text next (scan n next.1) ts is (scans next.1) e

rest_is : (n : ℕ) → Scans n → (text rest : List ℕ) (ts : List Token) → past is_blank text ≡ rest → scan_from (scan n) rest ≡ Some ts → Spells text ts
rest_is n scans text [] ts is e = let none : [] ≡ ts = cc in subst (Spells text) none is
rest_is n scans text (b ∷ bytes) ts is e = next_is n scans text (next_of (b ∷ bytes)) ts (ap next_of is) e

scan-only : (n : ℕ) → Scans n
scan-only zero text ts e = absurd cc
scan-only (suc n) text ts e = rest_is n (scan-only n) text (past is_blank text) ts refl e

abbrev meant_by : Option (List Token) → Option Line
meant_by None = None
meant_by (Some ts) = meaning_of ts

line_is : (bytes text : List ℕ) (l : Line) → without_end bytes ≡ Some text → IsUtf8 text → meant_by (scan 40 text) ≡ Some l → IsLine bytes l
line_is bytes text l ended utf8 e = by (scan 40 text) refl e
  where
    by : (o : Option (List Token)) → scan 40 text ≡ o → meant_by o ≡ Some l → IsLine bytes l
    by None s e = absurd cc
    by (Some ts) s e = record {
      text = text;
      ended = ended;
      utf8 = utf8;
      tokens = ts;
      spelled = scan-only 40 text ts s;
      meant = meaning_of-only ts l e;
    }

pub english_is_written : ReadsPlural english_text (Ok english_table)
unfolding lib.Utf8.encode
english_is_written = (
  Begins form.Cardinal ∷ Gives (rule_of_both category.One (relation operand.I None true 1) (relation operand.V None true 0)) ∷ Gives rule_of_others
      ∷ Begins form.Ordinal ∷ Gives (rule_of_end category.One 1 11) ∷ Gives (rule_of_end category.Two 2 12) ∷ Gives (rule_of_end category.Few 3 13) ∷ Gives rule_of_others ∷ [],
  (
    line_is _ (codes "cardinal") _ refl (codes "cardinal", (refl, refl)) refl,
    refl,
    (
      line_is _ (codes "one: i = 1 and v = 0") _ refl (codes "one: i = 1 and v = 0", (refl, refl)) refl,
      refl,
      (
        line_is _ (codes "other:") _ refl (codes "other:", (refl, refl)) refl,
        refl,
        (
          line_is _ (codes "ordinal") _ refl (codes "ordinal", (refl, refl)) refl,
          refl,
          (
            line_is _ (codes "one: n % 10 = 1 and n % 100 != 11") _ refl (codes "one: n % 10 = 1 and n % 100 != 11", (refl, refl)) refl,
            refl,
            (
              line_is _ (codes "two: n % 10 = 2 and n % 100 != 12") _ refl (codes "two: n % 10 = 2 and n % 100 != 12", (refl, refl)) refl,
              refl,
              (
                line_is _ (codes "few: n % 10 = 3 and n % 100 != 13") _ refl (codes "few: n % 10 = 3 and n % 100 != 13", (refl, refl)) refl,
                refl,
                (line_is _ (codes "other:") _ refl (codes "other:", (refl, refl)) refl, refl, tt),
              ),
            ),
          ),
        ),
      ),
    ),
  ),
  (refl, (refl, (refl, (refl, (refl, (refl, (refl, (refl, tt)))))))),
  refl,
)
