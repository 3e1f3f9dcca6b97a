-- The next line of a block, by where a search leads.
use Rattle.std.proofs.Common.{◌≡◌, ◌≤◌, ◌+◌, ◌-◌, ℕ, List, ◌∷◌, false, true, Option, Some, None, IfSome, All, take, refl, sym, ap, subst, ◌∙◌, arith}
use Rattle.std.proofs.lemmas.List.Elements.{All-drop}
use Rattle.idn_label.specs.FirstFault.{IsRegistrable}
use Rattle.idn_label.specs.Memory.{NeedsNoMemory}
use Rattle.idn_text.specs.Points.{AreScalarValues}
use Rattle.variant_list.specs.Positions.{Built, Position, tested_ahead}
use Rattle.variant_list.specs.Tested.{tested_among}
use Rattle.variant_list.proofs.TestedLaws.{tested-cut}
use Rattle.answer_json.specs.declared.block.Disposition.{Disposition}
use Rattle.idn2_options.specs.Settings.{IsWithinLimits, Settings}
use Rattle.idn2_answers.specs.Listings.{Filter, tested_after, variant_by}
use Rattle.idn2_cli.specs.declared.modes.variant_judge.VariantJudge.{VariantJudge}
use Rattle.idn2_cli.specs.inner.Blocks.{KnowsLabel, Tells, filter_of_judge}
use Rattle.idn2_cli.specs.inner.CachedLines.{IsBegun}
use Rattle.idn2_cli.specs.inner.Dispositions.{block_by}
use Rattle.idn2_cli.specs.inner.LineAnswers.{reaches}
use Rattle.idn2_cli.specs.inner.Progress.{Progress, first_counts, progress_of, GoesToEnd, GoesToStop, GoesToVariant, IsUnderWay, IsWritable, GoesOnWithoutMemory, lines_ahead, block_from, more_to, stop_from, variants_ahead}
use Rattle.idn2_cli.specs.inner.Ruling.{filter_for}
use Rattle.idn2_cli.proofs.ListingLemmas.{block-start, start-writable}
use Rattle.idn2_cli.proofs.ListingProgress.{HasEnded, HasFound, RunsOutOfSteps, RunsOutOfTries, ended-lines, found-ahead, found-lines, found-writable, halted-lines, halted-writable, reached-lines, spent-lines, spent-writable}
use Rattle.idn2_cli.proofs.RuledFilters.{filter_for-IsSound}
use Rattle.idn2_cli.proofs.StopSteps.{HasMore, more-within, unreached-more}

-- ---- the start of a block

module _ (o : Settings) (net : Built) (cursor : Position) (judge : VariantJudge) (limits : IsWithinLimits o) (by : filter_of_judge judge ≡ filter_for o.properties judge.validity judge.dispositions)
    (same_net : cursor.net ≡ net) (same_last : cursor.last ≡ take 63 o.after) where
  abbrev asked : Filter
  asked = filter_for o.properties judge.validity judge.dispositions

  abbrev start : Progress
  start = progress_of cursor judge (first_counts o)

  -- all of it is still to come
  pub start-lines : (field : List ℕ → Option Disposition) → block_by asked field o net.spelled ≡ lines_ahead (variant_by field) start
  start-lines field =
      block-start o.properties asked (filter_for-IsSound o.properties judge.validity judge.dispositions) field o net limits cursor same_net same_last
      ∙ ap (λ (f : Filter). block_from (variant_by field) 0 (stop_from f cursor (more_to o.limit 0) o.tries o.steps) (variants_ahead f cursor)) (sym by)

  pub start-under_way : All AreScalarValues net.spelled → KnowsLabel judge cursor.last → IsUnderWay start
  start-under_way spelled known = record {
    known = known;
    writable = subst IsWritable (sym same_last) (start-writable o.after limits.after_points);
    spelled = subst (λ (b : Built). All AreScalarValues b.spelled) (sym same_net) spelled;
    within = nothing-within o.limit;
    few = omega (arith, limits.tries.1);
  }
    where
      nothing-within : (limit : Option ℕ) → IfSome limit (λ n. 0 ≤ n)
      nothing-within None = tt
      nothing-within (Some n) = omega arith

  pub start-no_memory : All NeedsNoMemory (tested_after asked o net.spelled) → GoesOnWithoutMemory start
  start-no_memory all =
      subst (λ (f : Filter). All NeedsNoMemory (tested_among f.hopeless cursor.net.spelled cursor.last)) (sym by)
      (subst (λ (b : Built). All NeedsNoMemory (tested_among asked.hopeless b.spelled cursor.last)) (sym same_net)
      (subst (λ (last : List ℕ). All NeedsNoMemory (tested_among asked.hopeless net.spelled last)) (sym same_last) (subst (All NeedsNoMemory) (tested-cut asked.hopeless net.spelled o.after) all)))

-- ---- the next line

-- as many variants came as may be listed
pub to-limit : (old : Progress) → IsUnderWay old → reaches old.limit old.count ≡ true → GoesToStop old old
to-limit old h reached = record {
  said = λ line. reached-lines (filter_of_judge old.judge) line old.limit old.count old.cursor old.tries old.steps reached;
  writable = h.writable;
  begun = h.known.2;
}

module _ (old : Progress) (q : Position) (judge : VariantJudge) (left : ℕ) (rest : Option ℕ) (h : IsUnderWay old) (going : reaches old.limit old.count ≡ false) where
  abbrev f : Filter
  f = filter_of_judge old.judge

  some : HasMore (more_to old.limit old.count)
  some = unreached-more old.limit old.count h.within going

  -- the search came there, after so many variants
  abbrev pub come_to : ℕ → Progress
  come_to count = record { cursor = q; judge = judge; limit = old.limit; tries = left; steps = rest; count = count }

  pub to-variant : filter_of_judge judge ≡ f → HasFound f old.cursor q old.tries left old.steps rest → KnowsLabel judge q.last → Tells judge q.last → GoesToVariant old (come_to (old.count + 1))
  to-variant same found known tells = record {
    said = λ line.
        found-lines f old.cursor q old.tries left old.steps rest found line old.limit old.count some
        ∙ ap (λ (g : Filter). line q.last ∷ block_from line (old.count + 1) (stop_from g q (more_to old.limit (old.count + 1)) left rest) (variants_ahead g q)) (sym same);
    registrable = (
      old.judge.properties,
      subst (IsRegistrable old.judge.properties) (sym found.last) ((filter_for-IsSound old.judge.properties old.judge.validity old.judge.dispositions).registrable _ found.found.accepted),
    );
    tells = tells;
    under_way = record {
      known = known;
      writable = found-writable f old.cursor q old.tries left old.steps rest h.spelled h.writable found;
      spelled = subst (λ (b : Built). All AreScalarValues b.spelled) (sym found.net) h.spelled;
      within = more-within old.limit old.count some;
      few = omega (arith, h.few, found.found.tries_left, found.found.within);
    };
    fewer_tries = omega (arith, found.found.tries_left, found.found.within);
    no_memory = λ none.
        subst (λ (g : Filter). All NeedsNoMemory (tested_ahead g.hopeless q)) (sym same)
        (subst (All NeedsNoMemory) (sym (found-ahead f old.cursor q old.tries left old.steps rest found)) (All-drop NeedsNoMemory (old.tries - left) (tested_ahead f.hopeless old.cursor) none));
  }

  pub to-last_try : RunsOutOfTries f old.cursor q old.tries left old.steps rest → IsBegun q.last judge.line → GoesToStop old (come_to old.count)
  to-last_try spent begun = record {
    said = λ line. spent-lines f line old.count (more_to old.limit old.count) old.cursor q old.tries left old.steps rest some spent;
    writable = spent-writable f old.cursor q old.tries left old.steps rest h.spelled h.writable spent;
    begun = begun;
  }

  pub to-last_step : RunsOutOfSteps f old.cursor q old.tries left old.steps rest → IsBegun q.last judge.line → GoesToStop old (come_to old.count)
  to-last_step halted begun = record {
    said = λ line. halted-lines f line old.count (more_to old.limit old.count) old.cursor q old.tries left old.steps rest some halted;
    writable = halted-writable f old.cursor q old.tries left old.steps rest h.spelled h.writable halted;
    begun = begun;
  }

  pub to-end : HasEnded f old.cursor old.tries left old.steps → GoesToEnd old (come_to old.count)
  to-end ended = record { said = λ line. ended-lines f line old.count (more_to old.limit old.count) old.cursor old.tries left old.steps some ended }
