-- Words that are names.
use Rattle.std.proofs.Common.{◌≡◌, ℕ, Bool, true, false, not, ◌&&◌, nat_le, List, length, ap, sym, ◌∙◌}
use Rattle.std.specs.List.{list_all}
use Rattle.task_syntax.specs.Names.{is_name_byte, is_reserved, begins_with_letter, is_name}

-- all that a name is but a word that is not reserved
abbrev pub has_name_form : List ℕ → Bool
has_name_form word = begins_with_letter word && list_all is_name_byte word && nat_le (length word) 24

pub is_name-formed : (word : List ℕ) (reserved : Bool) → has_name_form word ≡ true → reserved ≡ is_reserved word → not reserved ≡ is_name word
is_name-formed word reserved h e = ap not e ∙ ap (λ b. b && not (is_reserved word)) (sym h)

pub is_name-unformed : (word : List ℕ) → has_name_form word ≡ false → false ≡ is_name word
is_name-unformed word h = ap (λ b. b && not (is_reserved word)) (sym h)
