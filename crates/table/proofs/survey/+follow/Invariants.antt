-- The measure of `survey::follow`: the lines still allowed.
use Rattle.table.proofs.survey.+follow.Given as goal

abbrev pub decreases-follow : goal.decreases-follow
decreases-follow l = l.allowed
