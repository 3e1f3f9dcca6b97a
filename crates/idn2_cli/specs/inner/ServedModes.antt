-- A mode that is run by the table of its text, to its end or to a stop.
use Rattle.std.specs.Prelude.{◌≡◌, ◌⊎◌, ℕ, true, List, Option, Some, None, Result, Err}
use Rattle.idn_text.specs.Reading.{Reading}
use Rattle.idn2_options.specs.Settings.{Settings}
use Rattle.idn2_options.specs.declared.command_line.mode.Mode.{Mode}
use Rattle.idn2_options.specs.declared.command_line.mode.Mode.TheVariants.{Variants, Jump, CheckTable, PrintTable}
use Rattle.idn2_answers.specs.Transcript.{TableGiven, IsTableOf}
use Rattle.idn2_output.specs.Writing.{Held}
use Rattle.idn2_output.specs.declared.status.Status.{Status}
use Rattle.idn2_output.specs.declared.stop.Stop.{Stop}
use Rattle.idn2_output.specs.declared.stop.Stop.TheVariants as stop
use Rattle.idn2_cli.specs.Ends.{Does, mode_job}
use Rattle.idn2_cli.specs.Memory.{reads_table}
use Rattle.idn2_cli.specs.declared.session.run.TableMode.{TableMode}
use Rattle.idn2_cli.specs.declared.session.run.TableMode.TheVariants as by_table

-- memory ran out before a line was read
pub record LacksMemory (o : Settings) (start now : Reading) (old new : Held) (result : Result Status Stop)
    : Type 0 where
  pub by_table : reads_table o.mode ≡ true
  pub why : result ≡ Err stop.Memory
  pub unread : now ≡ start
  pub unwritten : new ≡ old

-- the job of the mode, by the table or the fault that the text gives, is done or stopped; or memory ran out before that
abbrev pub Serves : Settings → (text : List ℕ) → (start now : Reading) → (old new : Held) → Result Status Stop → Type 0
Serves o text start now old new result =
    ((given : TableGiven) × IsTableOf o text given × Does (mode_job o given) start now old new result)
    ⊎ LacksMemory o start now old new result

-- the mode that searches: among registered labels, if there are some
abbrev pub search_mode : Option (List (List ℕ)) → Mode
search_mode None = Jump
search_mode (Some registered) = Variants

-- a mode that works by a table
abbrev pub mode_of : TableMode → Mode
mode_of by_table.Variants = Variants
mode_of by_table.Jump = Jump
mode_of by_table.Check = CheckTable
mode_of by_table.Print = PrintTable
