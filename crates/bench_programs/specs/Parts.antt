-- The text of a family's program: what stands before the number, and what behind it.
use Rattle.std.specs.Prelude.{ℕ, List, ◌++◌, codes}
use Rattle.bench_programs.specs.declared.family.Family.{Family}
use Rattle.bench_programs.specs.declared.family.Family.TheVariants.{Fib, Grid, Chain}

abbrev pub front_of : Family → List ℕ
front_of Fib =
    codes "ktask 1\n" ++
    codes "kind fib n\n" ++
    codes "var x y @a @b @g\n" ++
    codes "state start\n" ++
    codes "if n < 2 goto small\n" ++
    codes "sub x n 1\n" ++
    codes "sub y n 2\n" ++
    codes "spawn @a fib x\n" ++
    codes "spawn @b fib y\n" ++
    codes "all @g @a @b\n" ++
    codes "again sum behind @g\n" ++
    codes "label small\n" ++
    codes "done n\n" ++
    codes "state sum holds @a @b settled @a @b\n" ++
    codes "get x @a\n" ++
    codes "get y @b\n" ++
    codes "add x x y\n" ++
    codes "done x\n" ++
    codes "end\n" ++
    codes "root r fib "
front_of Grid =
    codes "ktask 1\n" ++
    codes "kind grid d\n" ++
    codes "var x @a @b @c @e @g\n" ++
    codes "state start\n" ++
    codes "if d == 0 goto one\n" ++
    codes "sub x d 1\n" ++
    codes "spawn @a grid x high\n" ++
    codes "spawn @b grid x\n" ++
    codes "spawn @c grid x\n" ++
    codes "spawn @e grid x low\n" ++
    codes "all @g @a @b @c @e\n" ++
    codes "again sum behind @g\n" ++
    codes "label one\n" ++
    codes "done 1\n" ++
    codes "state sum holds @a @b @c @e settled @a @b @c @e\n" ++
    codes "get d @a\n" ++
    codes "get x @b\n" ++
    codes "add d d x\n" ++
    codes "get x @c\n" ++
    codes "add d d x\n" ++
    codes "get x @e\n" ++
    codes "add d d x\n" ++
    codes "done d\n" ++
    codes "end\n" ++
    codes "root r grid "
front_of Chain =
    codes "ktask 1\n" ++
    codes "kind leaf n\n" ++
    codes "state start\n" ++
    codes "done n\n" ++
    codes "end\n" ++
    codes "kind chain n s\n" ++
    codes "var x @a\n" ++
    codes "state start\n" ++
    codes "if n == 0 goto out\n" ++
    codes "spawn @a leaf n\n" ++
    codes "again next behind @a\n" ++
    codes "label out\n" ++
    codes "done s\n" ++
    codes "state next holds @a settled @a\n" ++
    codes "get x @a\n" ++
    codes "add s s x\n" ++
    codes "sub n n 1\n" ++
    codes "again start\n" ++
    codes "end\n" ++
    codes "root r chain "

abbrev pub back_of : Family → List ℕ
back_of Fib = codes "\n"
back_of Grid = codes "\n"
back_of Chain = codes " 0\n"
