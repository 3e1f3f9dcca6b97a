-- The entries of a table and the pieces of the repertoire of its ruleset.
use Rattle.std.proofs.Common.{◌≡◌, ℕ, Bool, List, map, refl, sym, subst}
use Rattle.std.specs.Prelude.{IsTrue}
use Rattle.std.specs.List.{Contains}
use Rattle.lgr_text.specs.Records as lgr
use Rattle.lgr_text.specs.Records.{Ruleset}
use Rattle.lgr_text.specs.Repertoire.{Piece, kept_sources, may_be, piece_with, pieces, sources}
use Rattle.lgr_table.specs.Entries.{all_entries, entries_of, entry_with}
use Rattle.lgr_table.specs.Numbers.{Numbering}
use Rattle.variant_table.proofs.MemberLists.{Contains-filter, Contains-flat_map, Contains-map}
use Rattle.variant_table.specs.Entries.{Entry}

module _ (may : ℕ → Bool) (r : Ruleset) where
  -- a piece by its entry
  pub entry-piece : (p : Piece) → Contains (pieces may r) p → Contains r.entries p.entry × Contains (kept_sources may p.entry) p.source
  entry-piece p there =
      let e = (Contains-flat_map (λ (e : lgr.Entry). map (piece_with e) (kept_sources may e)) r.entries p).0 there in
      let s = (Contains-map (piece_with e.0) (kept_sources may e.0) p).0 e.2 in
      subst (λ (q : Piece). Contains r.entries q.entry × Contains (kept_sources may q.entry) q.source) (sym s.2) (e.1, s.1)

  pub piece-entry : (e : lgr.Entry) (s : List ℕ) → Contains r.entries e → Contains (kept_sources may e) s → Contains (pieces may r) (piece_with e s)
  piece-entry e s there kept =
      (Contains-flat_map (λ (e : lgr.Entry). map (piece_with e) (kept_sources may e)) r.entries (piece_with e s)).1
      (e, there, (Contains-map (piece_with e) (kept_sources may e) (piece_with e s)).1 (s, kept, refl))

  -- labels may have its source
  pub source-may : (p : Piece) → Contains (pieces may r) p → IsTrue (may_be may p.source)
  source-may p there = ((Contains-filter (may_be may) (sources p.entry.source) p.source).0 (entry-piece p there).1).1

  module _ (n : Numbering) where
    -- the entry of the table
    abbrev pub entry_at : Piece → Entry
    entry_at p = entry_with may n p.entry p.source

    pub to-entry : (p : Piece) → Contains (pieces may r) p → Contains (all_entries may n r.entries) (entry_at p)
    to-entry p there =
        let of = entry-piece p there in
        (Contains-flat_map (entries_of may n) r.entries (entry_at p)).1
        (p.entry, of.0, (Contains-map (entry_with may n p.entry) (kept_sources may p.entry) (entry_at p)).1 (p.source, of.1, refl))

    pub of-entry : (x : Entry) → Contains (all_entries may n r.entries) x → (p : Piece) × Contains (pieces may r) p × (x ≡ entry_at p)
    of-entry x there =
        let e = (Contains-flat_map (entries_of may n) r.entries x).0 there in
        let s = (Contains-map (entry_with may n e.0) (kept_sources may e.0) x).0 e.2 in
        (piece_with e.0 s.0, piece-entry e.0 s.0 e.1 s.1, s.2)
