pub mod Numbers
pub mod FloatAnswers
pub mod PairList
