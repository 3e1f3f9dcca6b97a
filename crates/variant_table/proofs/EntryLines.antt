-- The line of an entry.
use Rattle.std.proofs.Common.{◌≡◌, ℕ, ◌+◌, ◌<◌, ◌≤◌, List, [], ◌∷◌, ◌++◌, length, Some, Ok, refl, sym, ap, subst, ◌∙◌, append_assoc, arith, length-append}
use Rattle.std.specs.Str.Lines.{strip_carriage_return}
use Rattle.idn_class.specs.declared.properties.Properties.{Properties}
use Rattle.idn_text.specs.Lines.{raw_lines}
use Rattle.variant_table.specs.declared.version.Notation.{Notation}
use Rattle.variant_table.specs.declared.version.Version.{Version}
use Rattle.variant_table.specs.Entries.{TableValue, empty_table}
use Rattle.variant_table.specs.Reading.{table_of_text, with_raw_line}
use Rattle.variant_table.specs.Texts.{IsLineOfEntry, IsTextOf, LineAdds, LinesSpell}
use Rattle.variant_table.specs.Versions.{body_of, head_of, version_of}
use Rattle.variant_table.proofs.FaultlessLemmas.{IsSound, empty_sound, raw_line_step, text_read, whole_ok}

-- ---- lines that are read one after the other

-- these lines come after those that spell the table so far, of which there are so many
pub record HasReadTo (properties : Properties) (n : Notation) (text : List ℕ) (number : ℕ) (t : TableValue) (rest : List (List ℕ)) : Type 0 where
  pub before : List (List ℕ)
  pub version : version_of n (raw_lines text) ≡ Some t.version
  pub cut : body_of n (raw_lines text) ≡ before ++ rest
  pub numbered : number ≡ length (head_of n (raw_lines text)) + length before
  pub spelled : LinesSpell (empty_table properties t.version) before t
  pub sound : IsSound t

spells-one : (t u w : TableValue) (lines : List (List ℕ)) (line : List ℕ) → LinesSpell t lines u → LineAdds u (strip_carriage_return line) w → LinesSpell t (lines ++ line ∷ []) w
spells-one t u w [] line same adds = (w, subst (λ x. LineAdds x (strip_carriage_return line) w) same adds, refl)
spells-one t u w (first ∷ lines) line spells adds = (spells.0, spells.1, spells-one spells.0 u w lines line spells.2 adds)

module _ (properties : Properties) (n : Notation) (text : List ℕ) where
  pub reads-begin : (v : Version) (number : ℕ) (t : TableValue) (rest : List (List ℕ)) → version_of n (raw_lines text) ≡ Some v → number ≡ length (head_of n (raw_lines text))
      → t ≡ empty_table properties v → rest ≡ body_of n (raw_lines text) → HasReadTo properties n text number t rest
  reads-begin v number t rest is first empty body = record {
    before = [];
    version = is ∙ ap (λ w. Some w) (sym version);
    cut = sym body;
    numbered = omega (arith, first);
    spelled = empty ∙ ap (empty_table properties) (sym version);
    sound = subst IsSound (sym empty) (empty_sound properties v);
  }
    where
      version : t.version ≡ v
      version = ap (λ (x : TableValue). x.version) empty

  module _ (bytes number : ℕ) (t u : TableValue) (line : List ℕ) (lines rest : List (List ℕ)) (is : rest ≡ line ∷ lines) (so_far : HasReadTo properties n text number t rest) (read : with_raw_line bytes t line ≡ Ok u) where
    pub reads-on : HasReadTo properties n text (number + 1) u lines
    reads-on =
        let added = raw_line_step bytes t u line so_far.sound read in
        record {
          before = so_far.before ++ line ∷ [];
          version = so_far.version ∙ ap (λ w. Some w) (sym added.version);
          cut = so_far.cut ∙ ap (λ l. so_far.before ++ l) is ∙ sym (append_assoc so_far.before (line ∷ []) lines);
          numbered = omega (arith, so_far.numbered, length-append so_far.before (line ∷ []));
          spelled = spells-one (empty_table properties u.version) t u so_far.before line (subst (λ v. LinesSpell (empty_table properties v) so_far.before t) (sym added.version) so_far.spelled) added.spelled;
          sound = added.sound;
        }

    pub entry-here : (table : TableValue) (entry : ℕ) → IsTextOf properties n text table → length t.entries ≤ entry → entry < length u.entries → IsLineOfEntry n text table entry (number + 1)
    entry-here table entry spells not_before here =
        let versions : Some t.version ≡ Some table.version = sym so_far.version ∙ spells.version in
        let version : t.version ≡ table.version = cc in
        let start : empty_table properties t.version ≡ empty_table table.definitions.properties table.version =
        ap (empty_table properties) version ∙ ap (λ p. empty_table p table.version) (sym spells.by_these) in
        record {
          before = so_far.before;
          line = line;
          after = lines;
          earlier = t;
          later = u;
          cut = so_far.cut ∙ ap (λ l. so_far.before ++ l) is;
          numbered = omega (arith, so_far.numbered);
          spelled = subst (λ x. LinesSpell x so_far.before t) start so_far.spelled;
          added = (raw_line_step bytes t u line so_far.sound read).spelled;
          not_before = not_before;
          here = here;
        }

  -- a text has each entry of its table
  pub entry-somewhere : (table t : TableValue) (entry : ℕ) → IsTextOf properties n text table → entry < length table.entries → table_of_text properties n text ≡ Ok t → length t.entries ≤ entry → ⊥
  entry-somewhere table t entry spells within read all =
      omega (arith, within, all, ap (λ (x : TableValue). length x.entries) (whole_ok t table (table_of_text properties n text) read (text_read properties n text table spells)))
