use Rattle.web_requests.proofs.requests.head.Goals as goal

pub returns : goal.returns
returns c = c.in_ok-head.ensures.ok
