-- Each question takes a part of the text. Assumes nothing.
use Rattle.std.proofs.Common.{length}
use Rattle.vectors.proofs.questions.answer_questions.Given as goal

abbrev pub decreases-loop-rest : goal.decreases-loop-rest
decreases-loop-rest g l = length l.rest
