use Rattle.valid_labels.proofs.SegmentationLemmas.{made-from_segmentation, segmentation-free}
use Rattle.valid_labels.proofs.laws.segmentations_agree.Goals as goal

pub returns : goal.returns
returns c = record { made = made-from_segmentation; free = segmentation-free }
