-- Appending in parts.
use Rattle.std.proofs.Common.{ℕ, List, ◌++◌, take, drop, Option, Some, None, sym, ◌∙◌, ap, append_assoc}
use Rattle.std.proofs.lemmas.List.{take-append-drop}
use Rattle.std.specs.Io.KnownBytes.{Appends}
use Rattle.tool_io.specs.Sink.{AppendsAllBut}

pub appends_then : (a b c : Option (List ℕ)) (xs ys : List ℕ) → Appends a b xs → Appends b c ys → Appends a c (xs ++ ys)
appends_then None b c xs ys p q = tt
appends_then (Some a) None c xs ys p q = absurd p
appends_then (Some a) (Some b) None xs ys p q = absurd q
appends_then (Some a) (Some b) (Some c) xs ys p q = q ∙ ap (λ z. z ++ ys) p ∙ append_assoc a xs ys

pub all_but_more : (old middle new : Option (List ℕ)) (whole rest : List ℕ) (count : ℕ)
    → AppendsAllBut old middle whole rest → Appends middle new (take count rest) → AppendsAllBut old new whole (drop count rest)
all_but_more old middle new whole rest count so_far p = record {
  front = so_far.front ++ take count rest;
  split = so_far.split ∙ ap (λ z. so_far.front ++ z) (sym (take-append-drop count rest))
      ∙ sym (append_assoc so_far.front (take count rest) (drop count rest));
  taken = appends_then old middle new so_far.front (take count rest) so_far.taken p;
}
