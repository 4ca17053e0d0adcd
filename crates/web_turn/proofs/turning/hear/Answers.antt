use Rattle.web_turn.proofs.turning.hear.Goals as goal

pub returns : goal.returns
returns g c = record {
  mid = c.read_browser-opens.new.self;
  reads = c.read_browser-opens.ensures.reads;
  opens = c.read_browser-opens.ensures.opens;
  begins = c.begins-begins.ensures.begins;
  begun = c.begins-begins.ensures.begun;
  same = c.begins-begins.ensures.same;
}
