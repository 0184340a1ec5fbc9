use Rattle.std.proofs.Common.{◌≡◌, ℕ, ◌<◌, ◌≤◌, ◌&&◌, [], get_or, vec_len}
use Rattle.task_check.specs.Known.{in_set}
use Rattle.task_check.proofs.known.joined_members.Given as goal

abbrev pub invariant-lists : goal.invariant-lists
invariant-lists l = record {
  long : vec_len l.members ≡ vec_len l.fn.members;
  done : (g x : ℕ) → g < l.i → in_set x (get_or l.members.items g (record { words = [] })) ≡ (in_set x (get_or l.fn.members.items g (record { words = [] })) && in_set x (get_or l.other.items g (record { words = [] })));
  left : (g : ℕ) → l.i ≤ g → get_or l.members.items g (record { words = [] }) ≡ get_or l.fn.members.items g (record { words = [] });
}
