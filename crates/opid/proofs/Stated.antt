-- The lemmas that the laws cite.
use Rattle.opid.proofs.Told.{number_of-injective, name_of-injective}
use Rattle.opid.proofs.Order.{is_before-irrefl, is_before-trans, is_before-tie}
use Rattle.opid.proofs.Equation.{preorder-meets, preorder-only}
use Rattle.opid.proofs.Sound.{all-permutation, AreApart-all}
use Rattle.opid.proofs.Orders.{all-same, all-of_part, visible-part}
use Rattle.opid.proofs.Logs.{IsSound-lawful, IsLawful-take}
use Rattle.opid.proofs.Runs.{asked_insertions-lawful, asked_deletions-lawful}
use Rattle.opid.proofs.Placing.{asked_insertions-placed}
use Rattle.opid.proofs.Playing.{plays}
use Rattle.opid.proofs.Boundaries.{found, found_once, not_inside}
use Rattle.opid.proofs.Counted.{asked_insertions_in-placed, asked_insertions_in-lawful, asked_insertions_in-none, reading_in-visible}
use Rattle.opid.proofs.Counted.{asked_deletions_in-range, asked_deletions_in-lawful, asked_deletions_in-none}

pub ruleset laws = (
  number_of-injective,
  name_of-injective,
  is_before-irrefl,
  is_before-trans,
  is_before-tie,
  preorder-meets,
  preorder-only,
  all-permutation,
  AreApart-all,
  all-same,
  all-of_part,
  visible-part,
  IsSound-lawful,
  IsLawful-take,
  asked_insertions-lawful,
  asked_deletions-lawful,
  asked_insertions-placed,
)

-- of texts that are counted in characters or in code units
pub ruleset counted = (
  plays,
  found,
  found_once,
  not_inside,
  reading_in-visible,
  asked_insertions_in-placed,
  asked_insertions_in-lawful,
  asked_insertions_in-none,
  asked_deletions_in-range,
  asked_deletions_in-lawful,
  asked_deletions_in-none,
)
