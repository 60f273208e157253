pub mod Playing
pub mod Results
