use Rattle.std.proofs.Common.{◌≡◌, drop}
use Rattle.terminal_model.specs.Reading.{Terminal}
use Rattle.emulator.specs.Standing.{StandsFor}
use Rattle.web_page.specs.Hearing.{all_drawn, all_noted, KeepsSent}
use Rattle.web_page.proofs.display.WebDisplay.hear_each.Given as goal

abbrev pub invariant-loop-message : goal.invariant-loop-message
invariant-loop-message l = record {
  sheet : (t s : Terminal) → StandsFor l.fn.self.sheet.terminal t
      → s ≡ all_drawn t l.messages → (u : Terminal) × StandsFor l.self.sheet.terminal u
      × (s ≡ all_drawn u (drop l.message-index l.messages));
  sent : KeepsSent l.fn.self.sheet l.self.sheet;
  same : l.self ≡ record l.fn.self { sheet = l.self.sheet; told = l.self.told };
  told : all_noted l.fn.self.told l.messages ≡ all_noted l.self.told (drop l.message-index l.messages);
}
