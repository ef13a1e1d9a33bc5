pub mod FirstVersions
