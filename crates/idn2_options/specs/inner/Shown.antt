-- The uses that code lists, in the terms of the definitions.
use Rattle.std.specs.Prelude.{ℕ, List, map, Option, None, option_map}
use Rattle.clap.specs.Words.{Text}
use Rattle.idn2_options.specs.Uses.{Named, Use, by_letter, by_name}
use Rattle.idn2_options.specs.declared.command_line.uses.Named.{Named as CodeNamed}
use Rattle.idn2_options.specs.declared.command_line.uses.Named.TheVariants as code
use Rattle.idn2_options.specs.declared.command_line.uses.Use.{Use as CodeUse}

abbrev pub named_of : CodeNamed → Named
named_of (code.Name name) = by_name name.now
named_of (code.Letter letter) = by_letter letter

abbrev pub use_of : CodeUse → Use
use_of this = record {
  option = named_of this.option;
  attached = option_map (λ text. text.now) this.attached;
  next = option_map (λ text. text.now) this.next;
}

-- the uses of options by their letters
abbrev pub uses_by_letters : List ℕ → Option Text → List Use
uses_by_letters letters next =
    map (λ letter. record { option = by_letter letter; attached = None; next = next }) letters
