use Rattle.std.proofs.Common.{◌≡◌, ◌++◌, length, refl, string_bytes, arith}
use Rattle.std.specs.List.{flat_map}
use Rattle.std.proofs.lemmas.Grind.{common_steps}
use Rattle.schedule_text.specs.Grammar.{version_of, config_line, event_line}
use Rattle.schedule_text.proofs.Texts.{text_from_parts}
use Rattle.schedule_text.proofs.writing.text_or_error.Goals as goal

pub returns : goal.returns
returns c =
    let version : c.version_needed.result ≡ version_of c.args.config.now = grind (arith, common_steps) in
    let config : string_bytes c.push_config.new.text ≡ string_bytes c.push_version.new.text ++ config_line c.args.config.now =
    grind (arith, common_steps) in
    let events : string_bytes c.push_events.new.text ≡ string_bytes c.push_config.new.text ++ flat_map event_line c.args.events.now =
    grind (arith, common_steps) in
    text_from_parts (record { config = c.args.config.now; events = c.args.events.now }) _ (length c.args.events.now) _ _ _ _ _ version refl
    c.new-text.ensures.bytes c.in_ok-push_version.ensures config events c.in_ok-push_end.ensures
