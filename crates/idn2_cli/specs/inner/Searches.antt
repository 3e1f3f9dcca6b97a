-- A table by which collisions are searched, and what is near a label.
use Rattle.std.specs.Prelude.{◌≡◌, ◌↔◌, ℕ, List, All, Contains}
use Rattle.idn_text.specs.Points.{AreScalarValues}
use Rattle.valid_labels.specs.Validity.{IsSound}
use Rattle.variant_table.specs.Entries.{TableValue}
use Rattle.variant_list.specs.Closure.{AreNear}
use Rattle.variant_list.specs.Reversed.{AreFew, AreReversedOf}
use Rattle.idn2_cli.specs.declared.modes.search.Near.{Near}
use Rattle.idn2_cli.specs.declared.modes.search.Search.{Search}
use Rattle.idn2_cli.specs.inner.Decided.{Decides, IsOfPair}
use Rattle.idn2_cli.specs.inner.Dispositions.{AreOfTable}
use Rattle.idn2_cli.specs.inner.Ruling.{ruling_of}

-- what is found of the table once is of this table
pub record IsReady (s : Search) : Type 0 where
  pub sound : IsSound s.table.now
  pub ruling : s.ruling.now ≡ ruling_of s.table.now
  pub dispositions : AreOfTable s.table.now s.dispositions.now
  pub reversed : AreReversedOf s.table.now.entries s.reversed.now
  pub few : AreFew s.reversed.now

-- the variant graph has exactly the labels that are near this one, and what decides is of the two
pub record IsNearOf (table : TableValue) (label : List ℕ) (near : Near) : Type 0 where
  pub spelled : (w : List ℕ) → Contains near.net.spelled w ↔ AreNear table label w
  pub scalar_values : All AreScalarValues near.net.spelled
  pub decides : Decides near.decisions
  pub pair : IsOfPair table label near.decisions
