mod InferredLaws
