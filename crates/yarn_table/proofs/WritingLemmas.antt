-- A writer that has written the header and some rows: one more row, and the end.
use Rattle.std.proofs.Common.{◌≡◌, ◌<◌, ◌≤◌, ◌+◌, ℕ, zero, suc, List, [], ◌∷◌, ◌++◌, arith, length, get_or, map, take, Option, Some, All, sym, ap, ◌∙◌, append-nil, subst}
use Rattle.std.specs.Prelude.{IsUtf8, OnOk, Result, Ok, Err, decimal, ◌^◌}
use Rattle.std.specs.Io.KnownBytes.{Keeps}
use Rattle.std.proofs.lemmas.Fmt.{IsAscii-decimal}
use Rattle.std.proofs.lemmas.Str.{IsUtf8-from_ascii}
use Rattle.std.proofs.lemmas.List.{take_more, take_all}
use Rattle.std.proofs.lemmas.List.Elements.{All-nil, All-push}
use Rattle.csv.specs.Records.{AllText}
use Rattle.csv.specs.Writing.{default_writer, row_text, text_written}
use Rattle.csv.specs.declared.writer.Writer.{Writer}
use Rattle.yarn_value.specs.declared.base.BaseLine.{BaseLine}
use Rattle.yarn_table.specs.Written.{AreTexts, IsReadAgain, IsWithin, Names, fields_of_line, header_fields, line_fields, table_text}
use Rattle.yarn_table.specs.Steps.{Stands}
use Rattle.yarn_table.proofs.WrittenLemmas.{text_longer, written_is_read}

-- a row's fields are UTF-8, since its line has 32 bits
pub texts_of_line : (file node : List ℕ) (line : BaseLine) → IsUtf8 line.id → IsUtf8 line.text → IsUtf8 file → IsUtf8 node → line.line < 2 ^ 64 → AllText (line_fields file node line)
unfolding AllText
texts_of_line file node line id text f n few = (id, (text, (f, (n, (IsUtf8-from_ascii (decimal line.line) (IsAscii-decimal line.line few), tt)))))

pub on_any : {T E P : Type 0} (r : Result T E) → P → OnOk r P
on_any (Ok v) p = p
on_any (Err e) p = tt

-- a name that stands at a place, whatever is taken past the end
pub name_at : (names : List (List ℕ)) (at : ℕ) (name : List ℕ) → at < length names → name ≡ get_or names at name → name ≡ get_or names at []
name_at [] at name l e = absurd (omega arith)
name_at (x ∷ names) zero name l e = e
name_at (x ∷ names) (suc at) name l e = name_at names at name (omega arith) e

pub within_at : (names : Names) (base : List BaseLine) (i : ℕ) (line : BaseLine) → All (IsWithin names) base → i < length base → line ≡ get_or base i line → IsWithin names line
within_at names base i line all l item = subst (IsWithin names) (sym item) (all i line l)

pub record IsWriting {W : Type 0} (contents : W → Option (List ℕ)) (w : Writer W) (names : Names) (done : List BaseLine) : Type 0 where
  pub stands : Stands contents w (table_text names done)
  pub texts : AreTexts names done

pub writing_start : {W : Type 0} (contents : W → Option (List ℕ)) (w : Writer W) (names : Names) → Stands contents w (row_text default_writer header_fields) → IsWriting contents w names []
writing_start contents w names s = record {
  stands = subst (Stands contents w) (sym (append-nil (row_text default_writer header_fields))) s;
  texts = All-nil (λ line. AllText (fields_of_line names line));
}

pub writing_more : {W : Type 0} (contents : W → Option (List ℕ)) (w new : Writer W) (names : Names) (base : List BaseLine) (i : ℕ) (line : BaseLine) (file node : List ℕ)
    → IsWriting contents w names (take i base) → i < length base → line ≡ get_or base i line → file ≡ get_or names.0 line.file [] → node ≡ get_or names.1 line.node []
    → AllText (line_fields file node line)
    → ((before : List ℕ) → Stands contents w before → Stands contents new (before ++ row_text default_writer (line_fields file node line)))
    → IsWriting contents new names (take (i + 1) base)
writing_more contents w new names base i line file node is l item named titled text step =
    let done = take i base in
    let more : take (i + 1) base ≡ done ++ (line ∷ []) = take_more base i line l ∙ ap (λ (x : BaseLine). done ++ (x ∷ [])) (sym item) in
    let fields : line_fields file node line ≡ fields_of_line names line = ap (λ f. line_fields f node line) named ∙ ap (λ n. line_fields (get_or names.0 line.file []) n line) titled in
    subst (IsWriting contents new names) (sym more) (record {
      stands = subst (Stands contents new)
          (ap (λ fs. table_text names done ++ row_text default_writer fs) fields ∙ sym (text_longer names done line)) (step (table_text names done) is.stands);
      texts = All-push (λ line. AllText (fields_of_line names line)) done line is.texts (subst AllText fields text);
    })

kept : (text : List ℕ) (o : Option (List ℕ)) (bytes : List ℕ) → o ≡ Some text → Keeps o (Some bytes) → bytes ≡ text
kept text o bytes e k = rw e at k

pub writing_end : {W : Type 0} (contents : W → Option (List ℕ)) (w : Writer W) (names : Names) (base : List BaseLine) (i : ℕ) (bytes : List ℕ)
    → IsWriting contents w names (take i base) → length base ≤ i → Keeps (text_written contents w) (Some bytes)
    → (bytes ≡ table_text names base) × IsReadAgain bytes base
writing_end contents w names base i bytes is l k =
    let all = take_all i base l in
    let whole = subst (IsWriting contents w names) all is in
    let text = kept (table_text names base) (text_written contents w) bytes whole.stands.3 k in
    (text, subst (λ (t : List ℕ). IsReadAgain t base) (sym text) (written_is_read names base whole.texts))
