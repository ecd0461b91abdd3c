-- A reader that has read good records so far: one more, the end, and the first bad one.
use Rattle.std.proofs.Common.{◌≡◌, ℕ, List, [], ◌∷◌, ◌++◌, length, Option, Some, None, true, false, refl, sym, ◌∙◌, inl, subst}
use Rattle.std.specs.Prelude.{Bool, IfSome, Ok}
use Rattle.csv.specs.Machine.{Read, next_record}
use Rattle.csv.specs.Records.{AllText}
use Rattle.csv.specs.Reading.{ExplainsRead, NextIs, ReadsNext, ReadRecord, TookRecord, default_config, pending_of, records}
use Rattle.csv.specs.declared.error.ErrorKind.{ErrorKind}
use Rattle.csv.specs.declared.error.ErrorKind.TheVariants as kind
use Rattle.csv.specs.declared.parser.State.{State}
use Rattle.csv.specs.declared.parser.State.TheVariants as st
use Rattle.csv.specs.declared.reader.Reader.{Reader}
use Rattle.csv.proofs.ReadFacts.{rows-end, rows-more}
use Rattle.yarn_table.specs.Reader.{IsReading, ReadsOne}
use Rattle.yarn_table.specs.Records.{Fields, bad_record, is_good, width_of}
use Rattle.yarn_table.specs.Steps.{TellsBad, fault_of}
use Rattle.yarn_table.proofs.RecordLemmas.{all_reached, next_reached}
use Rattle.yarn_table.proofs.GoodLemmas.{bad_at, bad_length, bad_text, good_more, no_bad}

pub reading_more : {R : Type 0} (rem : R → Option (List ℕ)) (text : List ℕ) (rows : List Fields) (a b : Reader R) (f : Fields)
    → IsReading rem text rows a → ReadRecord rem a b true f → b.first ≡ true → AllText f → b.flexible ≡ a.flexible
    → IsReading rem text (rows ++ (f ∷ [])) b
reading_more rem text rows a b f i r first t flexible =
    let (z, at_z, reached) = rows-more rem a b f default_config st.StartRecord text i.rest rows i.config i.source i.reached r in
    let lengths = r.5 refl i.strict in
    let (good, width) = good_more rows f b.expected i.good t (subst (λ o. IfSome o (λ e. b.expected ≡ Some e)) i.width lengths.0) lengths.1 in
    record {
      trim = r.3 ∙ i.trim;
      ready = inl first;
      config = r.2 ∙ i.config;
      strict = flexible ∙ i.strict;
      width = width;
      good = good;
      rest = z;
      source = at_z;
      reached = reached;
    }

pub reading_end : {R : Type 0} (rem : R → Option (List ℕ)) (text : List ℕ) (rows : List Fields) (a b : Reader R) (f : Fields)
    → IsReading rem text rows a → ReadRecord rem a b false f → (records default_config text ≡ rows) × (bad_record (records default_config text) ≡ None)
reading_end rem text rows a b f i r =
    let all = all_reached default_config text rows a.state i.rest i.reached (rows-end rem a b f default_config i.rest i.config i.source r) in
    (all, rw all (no_bad rows i.good))

-- a record that was taken is the next one
next_taken : (o : Option Read) (f : Fields) (s : State) (z : List ℕ) → NextIs o true f s z → (p : Read) × (o ≡ Some p) × (f ≡ p.0)
next_taken None f s z n = cc n
next_taken (Some p) f s z n = (p, refl, n.1)

taken : (s s2 : State) (y : List ℕ) (k : Option (List ℕ)) (f : Fields) → ReadsNext default_config s (Some y) k true f s2 → (p : Read) × (next_record default_config s [] [] y ≡ Some p) × (f ≡ p.0)
taken s s2 y None f r = absurd r
taken s s2 y (Some z) f r = next_taken _ f s2 z r

bad_taken : {R : Type 0} (rem : R → Option (List ℕ)) (text : List ℕ) (rows : List Fields) (a b : Reader R) (f : Fields)
    → IsReading rem text rows a → TookRecord rem a b f → is_good (width_of (rows ++ (f ∷ []))) f ≡ false
    → bad_record (records default_config text) ≡ Some (length rows)
bad_taken rem text rows a b f i took bad =
    let (p, next, same) = taken a.state b.state i.rest (pending_of (rem b.rdr) b) f (rw (i.config, i.source) at took) in
    let (more, all) = next_reached default_config text rows a.state i.rest p i.reached next in
    rw (all, ← same) (bad_at rows f more i.good bad)

pub reading_bad : {R : Type 0} (rem : R → Option (List ℕ)) (text : List ℕ) (rows : List Fields) (a b : Reader R) (k : ErrorKind)
    → IsReading rem text rows a → ExplainsRead rem a b true k → TellsBad (bad_record (records default_config text)) (fault_of (length rows) k)
reading_bad rem text rows a b (kind.Io e) i x = tt
reading_bad rem text rows a b kind.OutOfMemory i x = tt
reading_bad rem text rows a b (kind.UnequalLengths pos expected len) i x =
    let (strict, known, other, f, took, many) = x in
    bad_taken rem text rows a b f i took (bad_length rows f expected (sym i.width ∙ known) (rw (← many) at other))
reading_bad rem text rows a b (kind.Utf8 pos err) i x =
    let (is, f, took, other) = x in
    bad_taken rem text rows a b f i took (bad_text (width_of (rows ++ (f ∷ []))) f other)
reading_bad rem text rows a b (kind.Serialize why) i x = tt
reading_bad rem text rows a b (kind.Deserialize pos err) i x = tt

-- a read that gave a record, or none
pub reading_one : {R : Type 0} (rem : R → Option (List ℕ)) (text : List ℕ) (rows : List Fields) (a b : Reader R) (f : Fields) (found : Bool)
    → IsReading rem text rows a → ReadRecord rem a b found f → b.first ≡ true → AllText f → b.flexible ≡ a.flexible → ReadsOne rem text rows b f (Ok found)
reading_one rem text rows a b f true i r first t flexible = reading_more rem text rows a b f i r first t flexible
reading_one rem text rows a b f false i r first t flexible = reading_end rem text rows a b f i r
