-- What was gathered for a base: one more row, and what is told behind all rows.
use Rattle.std.proofs.Common.{◌≡◌, ℕ, List, [], ◌∷◌, ◌++◌, map, Option, Some, None, is_some, refl, sym, ap, ◌∙◌, subst, true, false, position}
use Rattle.std.specs.Prelude.{bytes_eq, slice_get, Result, Ok, Err}
use Rattle.std.specs.Option.{option_or}
use Rattle.std.specs.List.{zip}
use Rattle.std.proofs.Math.ListN.{set}
use Rattle.yarn_value.specs.Templates.{template_of}
use Rattle.yarn_value.specs.declared.base.BaseLine.{BaseLine}
use Rattle.yarn_table.specs.Records.{Row}
use Rattle.yarn_table.specs.Tables.{Table, entry_of, has_id, missing, refused, repeated, rows_reading, text_for, text_under}
use Rattle.yarn_table.specs.Gathering.{IsGathered, held_for, judged, missing_among, read_among, refused_among, wanted_of}
use Rattle.yarn_table.specs.declared.gathered.Gathered.{Gathered}
use Rattle.yarn_table.specs.declared.gathered.Held.{Held}
use Rattle.yarn_table.specs.declared.fault.TableFault.{TableFault}
use Rattle.yarn_table.specs.declared.fault.TableFault.TheVariants.{DuplicateId, MissingId, BadTemplate}
use Rattle.yarn_table.proofs.TableLemmas.{absent, present, stands, zip-entries}
use Rattle.yarn_table.proofs.RowLemmas.{again, again-known, again-new, again-other, held_again, held_new, held_other, known, missing-among, option_or-none, read-among, reads_missing, reads_refused, reads_repeated, reads_table, refused-among, repeated_more, unknown}

-- the id of a row is found at a place
abbrev pub IsFound : Gathered → Row → Option ℕ → Type 0
IsFound g row found = found ≡ position (bytes_eq row.0) g.ids.keys

module _ (base : List BaseLine) (rows : List Row) (row : Row) (g : Gathered) (is : IsGathered base rows g) where
  place : (found : Option ℕ) → IsFound g row found → position (bytes_eq row.0) (map (λ line. line.id) base) ≡ found
  place found e = ap (λ keys. position (bytes_eq row.0) keys) (sym is.ids) ∙ sym e

  none_again : again base rows row ≡ None → g.repeated ≡ repeated base [] (rows ++ row ∷ [])
  none_again e = is.repeated ∙ sym (repeated_more base rows row ∙ ap (option_or (repeated base [] rows)) e ∙ option_or-none (repeated base [] rows))

  pub taken_other : IsFound g row None → IsGathered base (rows ++ row ∷ []) g
  taken_other e =
      let none = absent row.0 base (place None e) in
      record { distinct = is.distinct; ids = is.ids; held = is.held ∙ held_other base rows row none; repeated = none_again (again-other base rows row none) }

  pub taken_again : (at : ℕ) (new : Gathered) → IsFound g row (Some at) → None ≡ wanted_of (slice_get g.held.items at) → new.ids ≡ g.ids → new.held ≡ g.held → new.repeated ≡ option_or g.repeated (Some row.0) →
      IsGathered base (rows ++ row ∷ []) new
  taken_again at new e wanted ids held more =
      let here = stands row.0 base at (place (Some at) e) in
      let there = known base rows row.0 at here (ap (λ hs. wanted_of (slice_get hs at)) (sym is.held) ∙ sym wanted) in
      let same : again base rows row ≡ Some row.0 = again-known base rows row (present row.0 base at here) there in
      record {
        distinct = is.distinct;
        ids = ap (λ s. s.keys) ids ∙ is.ids;
        held = ap (λ v. v.items) held ∙ is.held ∙ held_again base rows row there;
        repeated = more ∙ ap (λ o. option_or o (Some row.0)) is.repeated ∙ ap (option_or (repeated base [] rows)) (sym same) ∙ sym (repeated_more base rows row);
      }

  pub taken_new : (at h : ℕ) (new : Gathered) (text : Held) → IsFound g row (Some at) → Some h ≡ wanted_of (slice_get g.held.items at) → text ≡ judged h (template_of row.1 h) →
      new.ids ≡ g.ids → new.held.items ≡ set g.held.items at text → new.repeated ≡ g.repeated → IsGathered base (rows ++ row ∷ []) new
  taken_new at h new text e wanted judge ids held same =
      let here = stands row.0 base at (place (Some at) e) in
      let free : wanted_of (slice_get (map (held_for rows) base) at) ≡ Some h = ap (λ hs. wanted_of (slice_get hs at)) (sym is.held) ∙ sym wanted in
      record {
        distinct = is.distinct;
        ids = ap (λ s. s.keys) ids ∙ is.ids;
        held = held ∙ ap (λ hs. set hs at text) is.held ∙ ap (set (map (held_for rows) base) at) judge ∙ held_new base rows row at h is.distinct here free;
        repeated = same ∙ none_again (again-new base rows row (present row.0 base at here) (unknown base rows row.0 at h here free));
      }

module _ (base : List BaseLine) (rows : List Row) (g : Gathered) (is : IsGathered base rows g) where
  pub tells_repeated : (id : List ℕ) → g.repeated ≡ Some id → rows_reading rows base ≡ Err (DuplicateId id)
  tells_repeated id e = reads_repeated rows base id (sym is.repeated ∙ e)

  among_missing : (o : Option (List ℕ)) → o ≡ missing_among g.ids.keys g.held.items → missing rows base ≡ o
  among_missing o e = sym (e ∙ ap (λ ids. missing_among ids g.held.items) is.ids ∙ ap (missing_among (map (λ line. line.id) base)) is.held ∙ missing-among base rows)

  among_refused : (o : Option (List ℕ)) → missing rows base ≡ None → o ≡ refused_among g.ids.keys g.held.items → refused rows base ≡ o
  among_refused o none e = sym (e ∙ ap (λ ids. refused_among ids g.held.items) is.ids ∙ ap (refused_among (map (λ line. line.id) base)) is.held ∙ refused-among base rows none)

  pub tells_missing : (id : List ℕ) → g.repeated ≡ None → Some id ≡ missing_among g.ids.keys g.held.items → rows_reading rows base ≡ Err (MissingId id)
  tells_missing id once e = reads_missing rows base id (sym is.repeated ∙ once) (among_missing (Some id) e)

  pub tells_refused : (id : List ℕ) → g.repeated ≡ None → None ≡ missing_among g.ids.keys g.held.items → Some id ≡ refused_among g.ids.keys g.held.items → rows_reading rows base ≡ Err (BadTemplate id)
  tells_refused id once all e = let none = among_missing None all in reads_refused rows base id (sym is.repeated ∙ once) none (among_refused (Some id) none e)

  pub tells_table : (table : Table) → g.repeated ≡ None → None ≡ missing_among g.ids.keys g.held.items → None ≡ refused_among g.ids.keys g.held.items →
      table ≡ zip g.ids.keys (read_among g.held.items) → rows_reading rows base ≡ Ok table
  tells_table table once all good e =
      let none = among_missing None all in
      let fine = among_refused None none good in
      let whole : table ≡ map (λ line. entry_of line (text_for rows line)) base =
      e ∙ ap (λ ids. zip ids (read_among g.held.items)) is.ids ∙ ap (λ hs. zip (map (λ line. line.id) base) (read_among hs)) is.held
      ∙ ap (zip (map (λ line. line.id) base)) (read-among base rows none fine) ∙ zip-entries (text_for rows) base in
      reads_table rows base (sym is.repeated ∙ once) none fine ∙ ap Ok (sym whole)
