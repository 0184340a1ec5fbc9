use Rattle.std.proofs.Common.{◌≡◌, ◌≤◌, List, [], ◌∷◌, length, get_or, map, String, string_bytes, ◌∙◌, ap, subst, arith}
use Rattle.std.specs.declared.alloc.Global.{Global}
use Rattle.std.specs.Result.{result_map_both}
use Rattle.tool_words.specs.Choice.{GivesOrWants, choice_by, choice_of, choice_seen}
use Rattle.tool_words.proofs.words.choose.Goals as goal

-- the first word says which command's words these are
by_first : (words : List (String Global)) (first : String Global) → 1 ≤ length words → first ≡ get_or words 0 first
    → choice_by (string_bytes first) (map string_bytes words) ≡ choice_of (map string_bytes words)
by_first [] first some is = absurd (omega arith)
by_first (word ∷ words) first some is = ap (λ w. choice_by (string_bytes w) (map string_bytes (word ∷ words))) is

pub returns-in-len1-up : goal.returns-in-len1-up
returns-in-len1-up c =
    let first : choice_by c.as_str.result.now (map string_bytes c.args.words.now) ≡ choice_of (map string_bytes c.args.words.now) =
    ap (λ w. choice_by w (map string_bytes c.args.words.now)) c.as_str.ensures.value ∙ by_first c.args.words.now c.first-item.result c.in-len1-up.len_at_least c.first-item.is in
    subst (λ o. GivesOrWants o (result_map_both choice_seen (λ error. error) c.choose_by.result)) first c.choose_by.ensures
