use Rattle.std.proofs.Common.{◌≡◌, ◌∙◌, codes, ap}
use Rattle.std.proofs.lemmas.Result.{IfOk-weaker}
use Rattle.clap.specs.Simple.{App, app_of, with_rule}
use Rattle.tool_words.specs.Commands.{optional_rule, flag_rule, with_required, with_option}
use Rattle.tool_words.proofs.commands.with_run_words.Goals as goal

abbrev with_optional : App → App
with_optional app = with_rule app (optional_rule (codes "columns"))

pub returns : goal.returns
returns c =
    let files : app_of c.in_ok-command-2.command ≡ with_optional (with_required (codes "program") (app_of c.args.command)) =
    c.in_ok-command-2.ensures ∙ ap with_optional c.in_ok-command.ensures in
    let superblocks = c.in_ok-command-3.ensures ∙ ap (with_option (codes "superblocks")) files in
    let units = c.in_ok-command-4.ensures ∙ ap (with_option (codes "units")) superblocks in
    let limit = c.in_ok-command-5.ensures ∙ ap (with_option (codes "limit")) units in
    IfOk-weaker c.with_flag.result _ _ (λ made e. e ∙ ap (λ app. with_rule app (flag_rule (codes "trace"))) limit) c.with_flag.ensures
