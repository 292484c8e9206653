use Rattle.std.proofs.Common.{◌≡◌, ◌≤◌, arith}
use Rattle.cf_stacks.proofs.standing.Fields.apply.Goals as goal

pub returns-in-Opens-clause-steps : goal.returns-in-Opens-clause-steps
returns-in-Opens-clause-steps c = c.step_opening.ensures.steps

pub returns-in-Opens-clause-total : goal.returns-in-Opens-clause-total
returns-in-Opens-clause-total c = omega (arith, c.step_opening.ensures.total)

pub returns-in-Calls-clause-steps : goal.returns-in-Calls-clause-steps
returns-in-Calls-clause-steps c = c.step_call.ensures.steps

pub returns-in-Calls-clause-total : goal.returns-in-Calls-clause-total
returns-in-Calls-clause-total c = c.step_call.ensures.total

pub returns-in-Answers-clause-steps : goal.returns-in-Answers-clause-steps
returns-in-Answers-clause-steps c = c.step_answer.ensures.steps

pub returns-in-Answers-clause-total : goal.returns-in-Answers-clause-total
returns-in-Answers-clause-total c = omega (arith, c.step_answer.ensures.total)

pub returns-in-Leaves-clause-steps : goal.returns-in-Leaves-clause-steps
returns-in-Leaves-clause-steps c = c.step_left.ensures.steps

pub returns-in-Leaves-clause-total : goal.returns-in-Leaves-clause-total
returns-in-Leaves-clause-total c = omega (arith, c.step_left.ensures.total)

pub returns-in-Nothing-clause-steps : goal.returns-in-Nothing-clause-steps
returns-in-Nothing-clause-steps c = c.step_nothing.ensures.steps

pub returns-in-Nothing-clause-total : goal.returns-in-Nothing-clause-total
returns-in-Nothing-clause-total c = omega (arith, c.step_nothing.ensures.total)
