use Rattle.std.proofs.Common.{refl, inr, ◌∙◌}
use Rattle.column_input.proofs.source.open.Goals as goal

pub returns-clause-reading : goal.returns-clause-reading
returns-clause-reading c =
    let made = c.from_reader.ensures in
    record {
      plain = rw (c.flexible.ensures, c.has_headers.ensures) at made.trim ∙ c.new.ensures.trim;
      ready = inr (inr (rw (c.flexible.ensures, c.has_headers.ensures) at made.has_headers, made.headers));
      default = rw (c.flexible.ensures, c.has_headers.ensures) at made.config ∙ c.new.ensures.config;
      between = rw made.state refl;
      known = rw made.source refl;
      flexible = rw c.flexible.ensures at made.flexible;
    }
