-- The tests of a label that its facts answer.
use Rattle.idn_class.proofs.FactLabels.{leading_mark-lacks, contextj_ok-lacks, contexto_ok-lacks, bidi_ok-lacks, is_nfc-lacks}

pub ruleset fact_tests = (leading_mark-lacks, contextj_ok-lacks, contexto_ok-lacks, bidi_ok-lacks, is_nfc-lacks)
