-- How a mode explains, as the definitions have it.
use Rattle.idn2_refusals.specs.Explained.{Explained, Unexplained, ByLabel, ByName, ByQuery, ByTable, ByRequest}
use Rattle.idn2_refusals.specs.Explained.{ByRegisteredLine}
use Rattle.idn2_refusals.specs.declared.cause.Explaining.{Explaining}
use Rattle.idn2_refusals.specs.declared.cause.Explaining.TheVariants as by

abbrev pub explained_by : Explaining → Explained
explained_by by.Nothing = Unexplained
explained_by (by.Label properties) = ByLabel properties
explained_by (by.Name properties) = ByName properties
explained_by (by.Query std3) = ByQuery std3
explained_by (by.Table properties table) = ByTable properties table.now
explained_by (by.Request properties table) = ByRequest properties table.now
explained_by (by.RegisteredLine properties) = ByRegisteredLine properties
