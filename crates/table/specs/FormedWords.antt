-- A well-formed slice as facts, for the functions behind the test.
use Rattle.std.specs.Prelude.{ℕ, ◌+◌, ◌*◌, ◌≤◌, ◌≡◌, true, List, length, get_or}
use Rattle.model.specs.Lists.{rising}
use Rattle.model.specs.Table.{header_size, record_size, members_in, ids, well_formed}

pub record FormedWords (ws : List ℕ) : Type 0 where
  pub header : header_size ≤ length ws
  pub r_low : 1 ≤ get_or ws 0 0
  pub r_high : get_or ws 0 0 ≤ 8
  pub few : get_or ws 1 0 ≤ 256
  pub fits : header_size + get_or ws 1 0 * record_size (get_or ws 0 0) ≤ length ws
  pub rises : rising (ids (members_in ws)) ≡ true
  pub right : well_formed ws ≡ true
