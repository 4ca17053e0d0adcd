mod NextStops
mod TabLemmas
