-- The edges of the list, of the facts and of the model.
use Rattle.edges.proofs.EdgeLaws.{edge-listed}
use Rattle.edges.proofs.Mean.{met-twice, edge-means, model-edge}
use Rattle.edges.proofs.theorems.meant.Goals as goal

pub returns : goal.returns
returns c = record {
  list_means = edge-listed;
  self_fact_means = met-twice;
  edge_means = edge-means;
  model_edge_means = λ counts t w few. model-edge counts t w.counts w.numbers few;
}
