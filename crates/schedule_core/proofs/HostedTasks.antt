-- The task of the next root, as its line says, once a record is made for it.
use Rattle.std.proofs.Common.{◌≡◌, ◌∙◌, ℕ, ◌<◌, ◌≤◌, Some, List, map, length, refl, sym, ap, subst, arith}
use Rattle.std.specs.Prelude.{slice_get}
use Rattle.std.specs.List.{flat_map}
use Rattle.std.specs.Option.{option_to_list}
use Rattle.record_core.specs.RootEnds.{root_passed, root_waited}
use Rattle.task_syntax.specs.Form.{IsWellFormed}
use Rattle.task_syntax.specs.Valid.{IsValid}
use Rattle.task_syntax.specs.declared.program.Program.{Program}
use Rattle.task_syntax.specs.declared.program.Root.{Root as RootLine}
use Rattle.task_syntax.specs.declared.program.RootArgument.{RootArgument}
use Rattle.frame_code.specs.Entries.{future_of, IsEntryOf, MayEnterWith}
use Rattle.frame_code.specs.Frames.{IsFrame}
use Rattle.frame_code.specs.Names.{present}
use Rattle.frame_code.specs.declared.entries.Passed.{Passed}
use Rattle.table_core.specs.Holdings.{RootSays}
use Rattle.table_core.specs.Roots.{HasRecord}
use Rattle.table_core.specs.declared.setup.Setup.{Setup}
use Rattle.table_core.specs.declared.view.View.{View}
use Rattle.step_table.specs.declared.record_tokens.Made.{Made}
use Rattle.schedule_core.specs.Begins.{HasBegun}
use Rattle.schedule_core.specs.Hosting.{IsNextRoot, HaveRecords, Hosts, ArePassedAs}
use Rattle.schedule_core.specs.NamedRoots.{HaveRootRecords, PassesRoots, TakesBehind, TakesUnits}
use Rattle.schedule_core.specs.References.{DropsEach, MayDropEach}
use Rattle.schedule_core.specs.RootStages.{IsRootTask, MayPlaceRoot, PlacesRoot, asking_root, root_placement, units_of_task}
use Rattle.schedule_core.specs.SeenTasks.{unit_behind}
use Rattle.schedule_core.specs.NewTasks.{kind_class}
use Rattle.schedule_core.specs.declared.answers.HostSpawned.{HostSpawned}
use Rattle.schedule_core.specs.declared.hosting.RootTask.{RootTask}
use Rattle.schedule_core.proofs.EachFacts.{drop-front, drop-rest, front-has, part-has}
use Rattle.schedule_core.proofs.HostedRoots.{drops-both, have-records, hosts-made, may-drop_taken, may-enter_root, may-place_root, passed-few, placed-futures}
use Rattle.schedule_core.proofs.TakenUnits.{takes-then}

module _ (g : Setup) (q : Program) (root : ℕ) (line : RootLine) (same : q ≡ g.checked) (formed : IsWellFormed q) (valid : IsValid q) (is_line : slice_get g.checked.roots root ≡ Some line) where
  pub formed-checked : IsWellFormed g.checked
  formed-checked = subst IsWellFormed same formed

  -- a root's line has few arguments, and a kind of the program
  pub arguments-few : (shown : List RootArgument) → shown ≡ line.arguments → length shown ≤ 16
  arguments-few shown is = omega (arith, ap length is, (formed-checked.roots root line is_line).arguments_fit)

  pub kind-within : line.kind < length q.kinds
  kind-within = subst (λ (p : Program). line.kind < length p.kinds) (sym same) (formed-checked.roots root line is_line).kind

module _ (g : Setup) (q : Program) (root : ℕ) (line : RootLine) (made : Made) (v : View) (base : View) (asked : List RootSays) (next : IsNextRoot g root line asked base) (have : HaveRecords line asked)
    (begun : HasBegun g (kind_class g.checked line.kind) (asking_root root) base made v) (same : q ≡ g.checked) (formed : IsWellFormed q) (valid : IsValid q) (shown : List RootArgument) (shown_is : shown ≡ line.arguments) where
  abbrev begun_turn : v.turn ≡ base.turn
  begun_turn = ap (λ (y : View). y.turn) begun.view_is

  -- the roots that the arguments name have records
  pub arguments-have : HaveRootRecords g.plan (flat_map root_passed shown) v
  arguments-have = subst (λ (l : List RootArgument). HaveRootRecords g.plan (flat_map root_passed l) v) (sym shown_is)
      (have-records g root line asked base v (flat_map root_passed line.arguments) (subst IsWellFormed same formed) next begun_turn (front-has (HasRecord asked) (flat_map root_passed line.arguments) (root_waited line.behind) have))

  module _ (given : List Passed) (v1 : View) (passes : PassesRoots g.plan shown given v v1) where
    -- so has the one that the line is behind
    pub behind-have : HaveRootRecords g.plan (root_waited line.behind) v1
    behind-have = have-records g root line asked base v1 (root_waited line.behind) (subst IsWellFormed same formed) next (ap (λ (y : View). y.turn) passes.takes.view_is ∙ begun_turn)
        (part-has (HasRecord asked) (flat_map root_passed line.arguments) (root_waited line.behind) have)

    given-are : ArePassedAs asked line.arguments given
    given-are = subst (λ (l : List RootArgument). ArePassedAs asked l given) shown_is (passes.are asked (begun_turn ∙ next.has_turn))

    pub given-few : length (present (map future_of given)) ≤ 16
    given-few = passed-few g.plan line.arguments asked given given-are (arguments-few g q root line same formed valid next.is_line line.arguments refl)

    -- what is passed may enter the kind
    pub given-enters : (passed_is : List Passed) → passed_is ≡ given → MayEnterWith q line.kind passed_is
    given-enters passed_is is = may-enter_root g q root line asked given passed_is v v1 same formed valid next.is_line given-are passes.takes is

    module _ (x : RootTask) (z : View) (x_is : x.passed.items ≡ given) (takes_behind : TakesBehind g.plan line.behind x.behind v1 z) (frame : IsFrame q x.first.items) (entry : IsEntryOf q line.kind given x.first.items) where
      -- the task is that of the line
      pub task-is : IsRootTask g.checked line asked x
      task-is = record {
        passes = subst (ArePassedAs asked line.arguments) (sym x_is) given-are;
        behind = takes_behind.is asked (ap (λ (y : View). y.turn) passes.takes.view_is ∙ begun_turn ∙ next.has_turn);
        frame = subst (λ (p : Program). IsFrame p x.first.items) same frame;
        entry = subst (λ (p : Program). IsEntryOf p line.kind x.passed.items x.first.items) same (subst (λ (l : List Passed). IsEntryOf q line.kind l x.first.items) (sym x_is) entry);
      }

      pub takes-all : TakesUnits g.plan (units_of_task x) v z
      takes-all = takes-then g.plan (present (map future_of x.passed.items)) (option_to_list (unit_behind x.behind)) v v1 z
          (subst (λ (l : List Passed). TakesUnits g.plan (present (map future_of l)) v v1) (sym x_is) passes.takes) takes_behind.takes

      pub may-place_task : MayPlaceRoot g root line made x (root_placement line x z) z
      may-place_task = may-place_root g root line made v base asked next have begun x z task-is takes-all takes_behind.task_is (subst IsWellFormed same formed) (subst IsValid same valid)

      module _ (told : HostSpawned) (a : View) (places : PlacesRoot g line made x (root_placement line x z) z told a) where
        may-drop : MayDropEach g (units_of_task x) a
        may-drop = let kept = placed-futures g root line made v base asked next have begun x z task-is takes-all takes_behind.task_is told a places in
            may-drop_taken g root line made v base asked next have begun x z task-is takes-all takes_behind.task_is a kept.0 kept.1

        -- the references to what was passed may be given up, and then that to the predecessor
        pub may-drop_passed : (l : List Passed) → l ≡ x.passed.items → MayDropEach g (present (map future_of l)) a
        may-drop_passed l is = subst (λ (k : List Passed). MayDropEach g (present (map future_of k)) a) (sym is) (drop-front g (present (map future_of x.passed.items)) (option_to_list (unit_behind x.behind)) a may-drop)

        module _ (l : List Passed) (is : l ≡ x.passed.items) (b : View) (drops' : DropsEach (present (map future_of l)) a b) where
          drops : DropsEach (present (map future_of x.passed.items)) a b
          drops = subst (λ (k : List Passed). DropsEach (present (map future_of k)) a b) is drops'

          pub may-drop_behind : MayDropEach g (option_to_list (unit_behind x.behind)) b
          may-drop_behind = drop-rest g (present (map future_of x.passed.items)) (option_to_list (unit_behind x.behind)) a b may-drop (ap (λ (y : View). y.futures) drops.view_is) (ap (λ (y : View). y.runs) drops.view_is)

          -- and so the root is hosted
          pub hosts-task : (n : View) → DropsEach (option_to_list (unit_behind x.behind)) b n → Hosts g root line asked base told n
          hosts-task n drops_behind = hosts-made g root line made v base asked next have begun x z task-is takes-all takes_behind.task_is told a n places
              (drops-both (present (map future_of x.passed.items)) (option_to_list (unit_behind x.behind)) a b n drops drops_behind)
