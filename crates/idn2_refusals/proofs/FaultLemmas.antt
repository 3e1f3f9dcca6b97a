-- The messages of faults, written out.
use Rattle.std.proofs.Common.{◌≡◌, ◌≢◌, codes, refl, ap, sym, ◌∙◌}
use Rattle.std.specs.Fmt.{digits}
use Rattle.idn_text.specs.declared.refusal.Refusal.{Refusal}
use Rattle.idn_text.specs.declared.refusal.Refusal.TheVariants.{Usage, ReadFault, WriteFault, Memory}
use Rattle.idn2_refusals.specs.Reports.{IsFault, closing_message}

usage_line : codes "idn2: 50 usage\n" ≡ closing_message Usage
unfolding digits
usage_line = refl

read_line : codes "idn2: 60 read fault\n" ≡ closing_message ReadFault
unfolding digits
read_line = refl

write_line : codes "idn2: 61 write fault\n" ≡ closing_message WriteFault
unfolding digits
write_line = refl

memory_line : codes "idn2: 70 out of memory\n" ≡ closing_message Memory
unfolding digits
memory_line = refl

pub read-message : (refusal : Refusal) → refusal ≡ ReadFault → codes "idn2: 60 read fault\n" ≡ closing_message refusal
read-message refusal is = read_line ∙ ap closing_message (sym is)

pub write-message : (refusal : Refusal) → refusal ≡ WriteFault → codes "idn2: 61 write fault\n" ≡ closing_message refusal
write-message refusal is = write_line ∙ ap closing_message (sym is)

pub memory-message : (refusal : Refusal) → refusal ≡ Memory → codes "idn2: 70 out of memory\n" ≡ closing_message refusal
memory-message refusal is = memory_line ∙ ap closing_message (sym is)

-- bad words are what is left
pub usage-message : (refusal : Refusal) → IsFault refusal → refusal ≢ ReadFault → refusal ≢ WriteFault → refusal ≢ Memory
    → codes "idn2: 50 usage\n" ≡ closing_message refusal
usage-message Usage is read write memory = usage_line
usage-message ReadFault is read write memory = absurd (read refl)
usage-message WriteFault is read write memory = absurd (write refl)
usage-message Memory is read write memory = absurd (memory refl)
usage-message _ is read write memory = absurd is
